-- Lines of lists and of reports as they are written for a caller in C (docs/FORMAT.md, What is written).
use Rattle.std.specs.Prelude.{◌≡◌, ◌≢◌, ◌<◌, ◌≤◌, ◌⊎◌, ◌++◌, ℕ, List, Bool, IsUtf8, length}
use Rattle.hashes.specs.declared.alg.Alg.{Alg}
use Rattle.sumlist.specs.Escape.{escaped}
use Rattle.sumlist.specs.Filled.{HasLine, line_text}
use Rattle.sumlist.specs.Lines.{line_limit}
use Rattle.sumlist.specs.Report.{verdict_text}
use Rattle.sumlist.specs.declared.verdict.Verdict.{Verdict}
use Rattle.listing.specs.Numbers.{IsAlg, verdict_number}
use Rattle.hash_c.specs.declared.statuses.TheConstants.{SUMS_DIGEST_LENGTH, SUMS_NO_HASH, SUMS_NO_LINE}
use Rattle.hash_c.specs.declared.statuses.TheConstants.{SUMS_NO_VERDICT, SUMS_OK, SUMS_OUTPUT_LENGTH}

-- a number that no hash has
abbrev pub IsNoHash : ℕ → Type 0
IsNoHash hash = (hash ≡ 0) ⊎ (5 < hash)

-- the line of an entry was written; or the first reason for a refusal is answered, and nothing was written
pub record WritesLine (hash : ℕ) (is_tagged : Bool) (digest name old new : List ℕ) (status : ℕ) : Type 0 where
  pub line : status ≡ SUMS_OK → (alg : Alg) × IsAlg hash (length digest) alg × HasLine is_tagged alg name
      × (new ≡ line_text is_tagged (record { name = name; alg = alg; tag = digest }))
  pub no_hash : status ≡ SUMS_NO_HASH → IsNoHash hash
  pub digest_length : status ≡ SUMS_DIGEST_LENGTH
      → (IsNoHash hash → ⊥) × ((alg : Alg) → IsAlg hash (length digest) alg → ⊥)
  pub no_line : status ≡ SUMS_NO_LINE
      → (alg : Alg) × IsAlg hash (length digest) alg × (HasLine is_tagged alg name → ⊥)
  pub output_length : status ≡ SUMS_OUTPUT_LENGTH → (alg : Alg) × IsAlg hash (length digest) alg
      × HasLine is_tagged alg name
      × (length old ≢ length (line_text is_tagged (record { name = name; alg = alg; tag = digest })))
  pub some : (status ≡ SUMS_OK) ⊎ ((status ≡ SUMS_NO_HASH) ⊎ ((status ≡ SUMS_DIGEST_LENGTH)
      ⊎ ((status ≡ SUMS_NO_LINE) ⊎ (status ≡ SUMS_OUTPUT_LENGTH))))
  pub kept : status ≢ SUMS_OK → new ≡ old

-- a name that can stand in a report
abbrev pub CanStand : List ℕ → Type 0
CanStand name = IsUtf8 name × (length name ≤ line_limit)

-- the line of a report was written; or the first reason for a refusal is answered, and nothing was written
pub record WritesReport (number : ℕ) (name old new : List ℕ) (status : ℕ) : Type 0 where
  pub line : status ≡ SUMS_OK → (verdict : Verdict) × (number ≡ verdict_number verdict) × CanStand name
      × (new ≡ escaped name ++ verdict_text verdict)
  pub no_verdict : status ≡ SUMS_NO_VERDICT → (verdict : Verdict) → number ≡ verdict_number verdict → ⊥
  pub no_line : status ≡ SUMS_NO_LINE
      → (verdict : Verdict) × (number ≡ verdict_number verdict) × (CanStand name → ⊥)
  pub output_length : status ≡ SUMS_OUTPUT_LENGTH → (verdict : Verdict) × (number ≡ verdict_number verdict)
      × CanStand name × (length old ≢ length (escaped name ++ verdict_text verdict))
  pub some : (status ≡ SUMS_OK) ⊎ ((status ≡ SUMS_NO_VERDICT) ⊎ ((status ≡ SUMS_NO_LINE)
      ⊎ (status ≡ SUMS_OUTPUT_LENGTH)))
  pub kept : status ≢ SUMS_OK → new ≡ old
