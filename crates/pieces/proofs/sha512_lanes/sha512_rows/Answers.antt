use Rattle.std.proofs.Common.{◌≡◌, ◌<◌, ◌^◌, ℕ, List, [], arith, ap, refl, ◌∙◌, take, drop, length}
use Rattle.std.proofs.Common.{slice_index, slice_index_or}
use Rattle.std.specs.Int.{w128}
use Rattle.sha2.specs.Sha512.{digest_bytes, hash_after, padded_message, sha512}
use Rattle.sha_blocks.proofs.Taking.{bits_counted}
use Rattle.words.proofs.LaneLemmas.{below_four}
use Rattle.pieces.proofs.PieceChains.{length_piece}
use Rattle.pieces.proofs.sha512_lanes.sha512_rows.Goals as goal

pub final_values-values-requires : goal.final_values-values-requires
unfolding hash_after
final_values-values-requires c = (
  omega arith,
  (
    omega arith,
    (
      omega arith,
      (
        refl,
        (
          λ k h b. refl,
          (
            λ i lt. c.same_lanes-first.ensures i lt,
            (c.requires.fits, (omega arith, c.bit_counts-counts.ensures.whole)),
          ),
        ),
      ),
    ),
  ),
)

pub returns-clause-value : goal.returns-clause-value
unfolding sha512
returns-clause-value c =
    let len : ℕ → ℕ = slice_index c.args.lens.now in
    let x : List ℕ = c.args.bytes.now in
    let start : ℕ → ℕ = slice_index c.args.starts.now in
    let row : (i : ℕ) → i < 4 → (bytes : List ℕ) → bytes ≡ digest_bytes (slice_index_or c.lane_rows.result i []) 8
    → bytes ≡ sha512 (take (len i) (drop (start i) x)) =
    λ i lt bytes is.
    let m : List ℕ = take (len i) (drop (start i) x) in
    let size : length m ≡ len i = length_piece x (start i) (len i) (c.requires.fits i lt) in
    let count = bits_counted w128 (2 ^ 128) _ (len i) _ refl (omega (arith, c.requires.fits i lt))
    (c.bit_counts-counts.ensures.value i lt) in
    is ∙ ap (λ h. digest_bytes h 8) (c.lane_rows.ensures i lt
    ∙ c.final_values-values.ensures i lt (padded_message m) (rw (size, count) refl)) in
    below_four _
    (row 0 (omega arith) _ c.bytes_of.ensures)
    (row 1 (omega arith) _ c.bytes_of-2.ensures)
    (row 2 (omega arith) _ c.bytes_of-3.ensures)
    (row 3 (omega arith) _ c.bytes_of-4.ensures)
