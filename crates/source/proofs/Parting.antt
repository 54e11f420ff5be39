-- Parts of what a feed has to come, one after the other.
use Rattle.std.proofs.lemmas.Grind.{common_steps}
use Rattle.std.proofs.Common.{◌≡◌, ℕ, zero, suc, ◌+◌, ◌-◌, ◌*◌, ◌/◌, ◌%◌, ◌^◌, ◌<◌, ◌≤◌, List, ◌++◌, Option}
use Rattle.std.proofs.Common.{IfSome, length, take, ap, sym, ◌∙◌, inl, inr, arith, append-nil}
use Rattle.std.proofs.Common.{length-append, length-take-le, mul-add, pow_mono, pow_pos}
use Rattle.std.proofs.Math.Nat.{pow-succ', mul-mod_right, mul_assoc, mul_comm}
use Rattle.std.proofs.lemmas.Bool.{cases_lt}
use Rattle.b3.specs.Parts.{IsPlacedAt}
use Rattle.b3.proofs.Holding.{run_start}
use Rattle.b3.proofs.Joining.{less_power, placed_within}
use borrow.Rule.Slice.PartMut.{put_mid}
use Rattle.std.proofs.Math.Seq.{take-append-add}
use Rattle.std.proofs.lemmas.List.{take-take}
use Rattle.std.proofs.lemmas.Slice.{take-put_mid}
use Rattle.std.specs.Io.KnownBytes.{Consumes, IsAtEnd, prepend_known}
use Rattle.source.specs.Pumped.{IsLongerThan}

-- the bytes that were read ahead alone are more than n
pub ahead_longer : (a : Option (List ℕ)) (xs : List ℕ) (n : ℕ) → n < length xs → IsLongerThan (prepend_known xs a) n
ahead_longer a xs n more = grind (arith, common_steps, length-append)

-- what was read behind the first n bytes of a buffer is the next of them
pub filled_more : (run buf : List ℕ) (n k count : ℕ) → n ≤ length run → count ≤ length buf
    → take (n + count) (put_mid n k run buf) ≡ take n run ++ take count buf
filled_more run buf n k count within few = grind (arith, common_steps, length-take-le, take-put_mid, take-take, take-append-add)

-- bytes behind which nothing was read into a buffer are all that was to come
pub all_taken : (a b c : Option (List ℕ)) (xs run bytes : List ℕ) (n : ℕ) (P : List ℕ → Type 0) → Consumes a b xs
    → Consumes (prepend_known xs b) (prepend_known (take n run) c) bytes → n ≡ 0 → (n < length run → IsAtEnd c)
    → 0 < length run → P bytes → IfSome a P
all_taken a b c xs run bytes n P first rest none end some holds = grind (arith, common_steps, append-nil)

-- chunks from the chunk `first` on in two halves, each of which a run of `len` bytes fits in
pub record IsHalved (first chunks len : ℕ) : Type 0 where
  pub power : ℕ
  pub half : chunks / 2 ≡ 2 ^ power
  pub double : chunks ≡ 2 * 2 ^ power
  pub less : chunks / 2 < chunks
  pub room : len ≤ 1024 * (chunks / 2)
  pub left : first % (chunks / 2) ≡ 0
  pub right : (first + chunks / 2) % (chunks / 2) ≡ 0

-- what begins at a multiple of the double begins at one of the half, and so does what comes behind the half
at_half : (first half : ℕ) → first % (2 * half) ≡ 0 → (first % half ≡ 0) × ((first + half) % half ≡ 0)
at_half first half aligned =
    let a : ℕ = first / (2 * half) in
    let start : a * (2 * half) ≡ first = run_start (2 * half) first aligned in
    let is : first ≡ half * (2 * a)
    = sym start ∙ mul_comm a (2 * half) ∙ ap (λ (x : ℕ). x * a) (mul_comm 2 half) ∙ mul_assoc half 2 a in
    let next : first + half ≡ half * (2 * a + 1) = omega (arith, is, mul-add half (2 * a) 1) in
    (rw is (mul-mod_right half (2 * a)), rw next (mul-mod_right half (2 * a + 1)))

-- a power of two of chunks that are more than a run
pub halved : (first chunks len : ℕ) → (k : ℕ) × (len ≡ 1024 * 2 ^ k) → (e : ℕ) × (chunks ≡ 2 ^ e)
    → len / 1024 < chunks → first % chunks ≡ 0 → IsHalved first chunks len
halved first chunks len (k, run) (zero, power) more aligned =
    absurd (omega (arith, run, power, more, pow_pos k))
halved first chunks len (k, run) (suc d, power) more aligned =
    let two : 2 ^ suc d ≡ 2 * 2 ^ d = pow-succ' 2 d in
    let smaller : k < suc d = less_power k (suc d) (omega (arith, run, power, more)) in
    let up : 2 ^ k ≤ 2 ^ d = pow_mono (omega (arith, smaller)) in
    let half : chunks / 2 ≡ 2 ^ d = omega (arith, power, two) in
    let double : chunks ≡ 2 * (chunks / 2) = omega (arith, power, two) in
    let places = at_half first (chunks / 2) (rw double at aligned) in
    record {
      power = d;
      half = half;
      double = omega (arith, power, two);
      less = omega (arith, power, two, pow_pos d);
      room = omega (arith, run, up, half);
      left = places.0;
      right = places.1;
    }

-- a part that is refused would end after the limit
pub over_limit : (e first n : ℕ) → first % 2 ^ e ≡ 0 → (n ≡ 0 → first ≡ 0) → n ≤ 1024 * 2 ^ e
    → (IsPlacedAt first n → ⊥) → 2 ^ 64 - 1 - 1024 * first < n
over_limit e first n aligned none few refused =
    elim (cases_lt (2 ^ 64 - 1) (1024 * first + n)) [
      | inl over ↦ elim (cases_lt 0 n) [
        | inl some ↦ omega (arith, over, some)
        | inr empty ↦
            let zero_first : first ≡ 0 = none (omega (arith, empty)) in
            absurd (omega (arith, over, empty, zero_first))
      ]
      | inr fits ↦ absurd (refused (placed_within e first n aligned none few (omega (arith, fits))))
    ]
