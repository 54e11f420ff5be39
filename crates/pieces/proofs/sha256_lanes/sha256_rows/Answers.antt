use Rattle.std.proofs.Common.{◌≡◌, ◌<◌, ℕ, List, [], arith, ap, refl, ◌∙◌, take, drop, length}
use Rattle.std.proofs.Common.{slice_index, slice_index_or}
use Rattle.sha2.specs.Sha256.{digest_bytes, hash_after, padded_message, sha256}
use Rattle.words.proofs.LaneLemmas.{below_eight}
use Rattle.pieces.proofs.PieceChains.{length_piece}
use Rattle.pieces.proofs.sha256_lanes.sha256_rows.Goals as goal

pub final_values-values-requires : goal.final_values-values-requires
unfolding hash_after
final_values-values-requires c = (
  omega arith,
  (
    omega arith,
    (
      omega arith,
      (
        refl,
        (
          λ k h b. refl,
          (
            λ i lt. c.same_lanes-first.ensures i lt,
            (c.requires.fits, (omega arith, c.bit_counts-counts.ensures.whole)),
          ),
        ),
      ),
    ),
  ),
)

pub returns-clause-value : goal.returns-clause-value
unfolding sha256
returns-clause-value c =
    let len : ℕ → ℕ = slice_index c.args.lens.now in
    let x : List ℕ = c.args.bytes.now in
    let start : ℕ → ℕ = slice_index c.args.starts.now in
    let row : (i : ℕ) → i < 8 → (bytes : List ℕ) → bytes ≡ digest_bytes (slice_index_or c.lane_rows.result i []) 8
    → bytes ≡ sha256 (take (len i) (drop (start i) x)) =
    λ i lt bytes is.
    let m : List ℕ = take (len i) (drop (start i) x) in
    let size : length m ≡ len i = length_piece x (start i) (len i) (c.requires.fits i lt) in
    let count = c.bit_counts-counts.ensures.value i lt in
    is ∙ ap (λ h. digest_bytes h 8) (c.lane_rows.ensures i lt
    ∙ c.final_values-values.ensures i lt (padded_message m) (rw (size, count) refl)) in
    below_eight _
    (row 0 (omega arith) _ c.bytes_of.ensures)
    (row 1 (omega arith) _ c.bytes_of-2.ensures)
    (row 2 (omega arith) _ c.bytes_of-3.ensures)
    (row 3 (omega arith) _ c.bytes_of-4.ensures)
    (row 4 (omega arith) _ c.bytes_of-5.ensures)
    (row 5 (omega arith) _ c.bytes_of-6.ensures)
    (row 6 (omega arith) _ c.bytes_of-7.ensures)
    (row 7 (omega arith) _ c.bytes_of-8.ensures)
