-- What the result of reading a source says about the feed's count of failures.
use Rattle.std.specs.Prelude.{◌≡◌, ℕ, Result, Err}
use Rattle.source.specs.Counts.{next_count}
use Rattle.source.specs.declared.pumping.SourceFault.{SourceFault}
use Rattle.source.specs.declared.pumping.SourceFault.TheVariants.{Read}

-- `Read` is one more failure, and any other result is none
abbrev pub PumpCounts : {T : Type 0} → Result T SourceFault → ℕ → ℕ → Type 0
PumpCounts (Err Read) old new = new ≡ next_count old
PumpCounts _ old new = new ≡ old
