use Rattle.std.proofs.Common.{◌≡◌, ◌<◌, ◌+◌, ◌*◌, ℕ, List, arith, slice_index}
use Rattle.words.proofs.LaneLemmas.{below_eight}
use Rattle.pieces.specs.inside.Words.{reversed}
use Rattle.pieces.proofs.sha_lanes.words32.reverse.Goals as goal

pub returns : goal.returns
returns c =
    let x : List ℕ = c.args.x in
    let b : List ℕ = c.bytes_of.result in
    let byte = c.bytes_of.ensures in
    let word : (i : ℕ) → i < 8 → slice_index b (4 * i + 3) + 256 * (slice_index b (4 * i + 2) + 256 *
    (slice_index b (4 * i + 1) + 256 * (slice_index b (4 * i + 0) + 256 * 0))) ≡ reversed (slice_index x i) =
    λ i lt. omega (
      arith,
      byte i 0 lt (omega arith),
      byte i 1 lt (omega arith),
      byte i 2 lt (omega arith),
      byte i 3 lt (omega arith),
    ) in
    below_eight _
    (rw (c.words_of.ensures 0 (omega arith), c.turned_round.ensures) (word 0 (omega arith)))
    (rw (c.words_of.ensures 1 (omega arith), c.turned_round.ensures) (word 1 (omega arith)))
    (rw (c.words_of.ensures 2 (omega arith), c.turned_round.ensures) (word 2 (omega arith)))
    (rw (c.words_of.ensures 3 (omega arith), c.turned_round.ensures) (word 3 (omega arith)))
    (rw (c.words_of.ensures 4 (omega arith), c.turned_round.ensures) (word 4 (omega arith)))
    (rw (c.words_of.ensures 5 (omega arith), c.turned_round.ensures) (word 5 (omega arith)))
    (rw (c.words_of.ensures 6 (omega arith), c.turned_round.ensures) (word 6 (omega arith)))
    (rw (c.words_of.ensures 7 (omega arith), c.turned_round.ensures) (word 7 (omega arith)))
