use Rattle.std.proofs.Common.{◌≡◌, ◌+◌, ◌/◌, ◌<◌, ◌≤◌, ◌*◌, ◌∙◌, ℕ, List, add-one, ap, arith}
use Rattle.std.proofs.Common.{drop, inl, inr, length, refl, slice_index, take}
use Rattle.std.proofs.lemmas.Bool.{cases_lt}
use Rattle.std.proofs.lemmas.Nat.{le-div}
use Rattle.pieces.specs.inside.Blocks.{taken}
use Rattle.pieces.proofs.PieceLemmas.{whole_within}
use Rattle.pieces.proofs.block_lanes.take_each.Goals as goal

pub each-init : goal.each-init
unfolding taken
each-init g c = record {
  on = λ i lt le. refl;
  off = λ i lt le. let none : slice_index c.args.counts.now i ≡ 0 = omega arith in rw none refl;
}

pub take_next-requires : goal.take_next-requires
take_next-requires g c =
    let n : ℕ = g.row.N in
    let len : ℕ = length c.args.bytes.now in
    let fits : (i : ℕ) → i < g.row.LANES → slice_index c.args.counts.now i ≤ len / n =
    λ i lt. le-div _ len n g.met.H.HashValues.positive (omega (arith, c.requires i lt)) in
    let most : c.most_of-block-end.result ≤ len / n = c.most_of-block-end.ensures.least (len / n) fits in (
      omega (arith, g.met.H.HashValues.few_lanes),
      (whole_within n len (c.each.block + 1) (omega arith), (c.least_of-least.ensures, c.requires)),
    )

pub each-preserved : goal.each-preserved
unfolding taken
each-preserved g c =
    let k : ℕ = c.each.block in
    let count : ℕ → ℕ = slice_index c.args.counts.now in
    let start : ℕ → ℕ = slice_index c.args.starts.now in
    let block : ℕ → List ℕ = λ i. take g.row.N (drop (start i + g.row.N * k) c.args.bytes.now) in
    let more : (i : ℕ) → i < g.row.LANES → k < count i → g.H.HashValues.lane i c.take_next.new.values
    ≡ taken g.H.HashValues.made g.row.N (g.H.HashValues.lane i c.args.values.now) c.args.bytes.now
    (slice_index c.args.starts.now i) (k + 1) =
    λ i lt has. rw add-one (c.take_next.ensures.next i lt has
    ∙ ap (λ (h : List ℕ). g.H.HashValues.made k h (block i)) (c.each.invariant.on i lt (omega arith))) in
    record {
      on = λ i lt le. more i lt (omega arith);
      off = λ i lt le. elim (cases_lt k (count i)) [
        | inl has ↦ let end : count i ≡ k + 1 = omega arith in rw end (more i lt has)
        | inr done ↦ c.take_next.ensures.kept i lt done ∙ c.each.invariant.off i lt done
      ];
    }

pub returns : goal.returns
returns g c = λ i lt.
    c.each.invariant.off i lt (omega (arith, c.most_of-block-end.ensures.bound i lt))
