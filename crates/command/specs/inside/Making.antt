-- What is made of the bytes of a feed, before it is printed: a digest or a tag.
use Rattle.std.specs.Prelude.{◌≡◌, ◌<◌, ◌≤◌, ℕ, List, Result, Ok, Err, length}
use Rattle.source.specs.declared.pumping.SourceFault.{SourceFault}
use Rattle.source.specs.declared.pumping.SourceFault.TheVariants.{TooLong}
use Rattle.command.specs.declared.making.Made.{Made}
use Rattle.command.specs.declared.making.Made.TheVariants as made

-- how long it is
abbrev pub made_len : Made → ℕ
made_len (made.Tag tag) = length tag
made_len (made.Output o n) = n

-- all that comes is so many bytes at most, and what was made of it is right; or it is longer, or a read failed
abbrev pub Makes : ℕ → (List ℕ → Made → Type 0) → List ℕ → Result Made SourceFault → Type 0
Makes most is m (Ok made) = (length m ≤ most) × is m made
Makes most is m (Err fault) = fault ≡ TooLong → most < length m
