-- The numbers by which a caller in C names hashes and verdicts (docs/FORMAT.md, Grammar).
use Rattle.std.specs.Prelude.{◌≡◌, ℕ, Option, Some, None}
use Rattle.hashes.specs.declared.alg.Alg.{Alg}
use Rattle.hashes.specs.Digest.{IsInRange, digest_len}
use Rattle.hashes.specs.Kinds.{alg_kind}
use Rattle.hashes.specs.declared.kind.Kind.{Kind}
use Rattle.hashes.specs.declared.kind.Kind.TheVariants.{Blake2b, Blake2s, Blake3, Sha256, Sha512}
use Rattle.sumlist.specs.declared.verdict.Verdict.{Verdict}
use Rattle.sumlist.specs.declared.verdict.Verdict.TheVariants.{Matches, Differs, Missing, Unreadable, TooLong}

-- the number of a hash, or 0 for none
abbrev pub number_of : Option Kind → ℕ
number_of None = 0
number_of (Some Sha256) = 1
number_of (Some Sha512) = 2
number_of (Some Blake2b) = 3
number_of (Some Blake2s) = 4
number_of (Some Blake3) = 5

-- the algorithm of the hash with this number and digests of this length
abbrev pub IsAlg : (hash len : ℕ) → Alg → Type 0
IsAlg hash len alg = (hash ≡ number_of (Some (alg_kind alg))) × IsInRange alg × (digest_len alg ≡ len)

-- the number of a verdict
abbrev pub verdict_number : Verdict → ℕ
verdict_number Matches = 1
verdict_number Differs = 2
verdict_number Missing = 3
verdict_number Unreadable = 4
verdict_number TooLong = 5
