use Rattle.std.proofs.Common.{◌≡◌, ◌+◌, [], ◌∷◌, slice_index, refl, ◌∙◌}
use Rattle.words.proofs.LaneLemmas.{below_four, by_fours}
use Rattle.words.proofs.lanes.four.next_fours.Goals as goal

pub returns : goal.returns
returns c =
    let joined = c.joined_lanes.ensures in
    let t = slice_index c.args.t.now in
    by_fours _
    (λ i h. joined.left i h ∙ c.next_lanes-left.ensures i h
    ∙ rw (
      c.left_values.ensures i h,
      c.left_words.ensures i h,
      below_four (λ k. slice_index (t 0 ∷ t 1 ∷ t 2 ∷ t 3 ∷ []) k ≡ t k) refl refl refl refl i h,
    ) refl)
    (λ i h. joined.right i h ∙ c.next_lanes-right.ensures i h
    ∙ rw (
      c.right_values.ensures i h,
      c.right_words.ensures i h,
      below_four (λ k. slice_index (t 4 ∷ t 5 ∷ t 6 ∷ t 7 ∷ []) k ≡ t (4 + k)) refl refl refl refl i h,
    ) refl)
