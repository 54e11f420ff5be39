-- What the steps of reading a label, a body and digits find.
use Rattle.std.specs.Prelude.{◌≡◌, ◌==◌, ◌&&◌, ℕ, ◌*◌, ◌/◌, ◌<◌, ◌≤◌, nat_le, Bool, true, List, ◌∷◌, ◌++◌, length}
use Rattle.std.specs.Prelude.{if◌then◌else◌, Option, None, Some}
use Rattle.std.specs.Fmt.{decimal}
use Rattle.hashes.specs.declared.alg.Alg.{Alg}
use Rattle.hashes.specs.declared.alg.Alg.TheVariants.{Blake2b, Blake2s}
use Rattle.hashes.specs.declared.alg.TheConstants.{BLAKE2B_LEN, BLAKE2S_LEN}
use Rattle.hashes.specs.Digest.{IsInRange, digest_len}
use Rattle.hashes.specs.Kinds.{longest}
use Rattle.hashes.specs.declared.kind.Kind.{Kind}
use Rattle.hashes.specs.declared.kind.Kind.TheVariants as variant
use Rattle.sumlist.specs.Tagged.{IsLabel}

-- the algorithm of a kind whose digests have n bytes
abbrev pub alg_with : Kind → ℕ → Alg
alg_with variant.Blake2b n = Blake2b n
alg_with variant.Blake2s n = Blake2s n
alg_with kind n = longest kind

-- whether there is a digest of its length
abbrev pub is_in_range : Alg → Bool
is_in_range (Blake2b n) = nat_le 1 n && nat_le n BLAKE2B_LEN
is_in_range (Blake2s n) = nat_le 1 n && nat_le n BLAKE2S_LEN
is_in_range _ = true

-- the algorithm, where it has digests of so many digits
abbrev pub sized : Alg → ℕ → Option Alg
sized alg n = if is_in_range alg && (n == 2 * digest_len alg) then Some alg else None

-- the algorithm that a number of digits names, where there is a kind
abbrev pub sized_alg : Option Kind → ℕ → Option Alg
sized_alg None n = None
sized_alg (Some kind) n = sized (alg_with kind (n / 2)) n

-- no algorithm has this label
abbrev pub NotNamed : List ℕ → Type 0
NotNamed label = (a : Alg) → IsInRange a → IsLabel label a → ⊥

-- a front and the number of so many bytes' bits, up to a bound
abbrev pub IsNumbered : List ℕ → List ℕ → ℕ → ℕ → Type 0
IsNumbered label front most n = (0 < n) × (n ≤ most) × (label ≡ front ++ decimal (8 * n))

abbrev pub NotNumbered : List ℕ → List ℕ → ℕ → Type 0
NotNumbered label front most = (n : ℕ) → 0 < n → n ≤ most → label ≡ front ++ decimal (8 * n) → ⊥

-- what stands after a name's body: a bracket, and the digits
abbrev pub closing : List ℕ → List ℕ
closing digits = 41 ∷ 32 ∷ 61 ∷ 32 ∷ digits

-- a name's body, and so many digits
abbrev pub Ended : List ℕ → ℕ → List ℕ → List ℕ → Type 0
Ended rest n body digits = (rest ≡ body ++ closing digits) × (length digits ≡ n)

abbrev pub NotEnded : List ℕ → ℕ → Type 0
NotEnded rest n = (body digits : List ℕ) → Ended rest n body digits → ⊥
