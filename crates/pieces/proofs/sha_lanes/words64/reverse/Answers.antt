use Rattle.std.proofs.Common.{◌≡◌, ◌<◌, ◌+◌, ◌*◌, ℕ, List, arith, slice_index}
use Rattle.words.proofs.LaneLemmas.{below_four}
use Rattle.pieces.specs.inside.Words.{reversed_long}
use Rattle.words.proofs.LongTurns.{word_of}
use Rattle.pieces.proofs.sha_lanes.words64.reverse.Goals as goal

pub returns : goal.returns
returns c =
    let x : List ℕ = c.args.x in
    let b : List ℕ = c.bytes_of.result in
    let byte = c.bytes_of.ensures in
    let word : (i : ℕ) → i < 4 → word_of (slice_index b (8 * i + 7)) (slice_index b (8 * i + 6))
    (slice_index b (8 * i + 5)) (slice_index b (8 * i + 4)) (slice_index b (8 * i + 3)) (slice_index b (8 * i + 2))
    (slice_index b (8 * i + 1)) (slice_index b (8 * i + 0)) ≡ reversed_long (slice_index x i) =
    λ i lt. omega (
      arith,
      byte i 0 lt (omega arith),
      byte i 1 lt (omega arith),
      byte i 2 lt (omega arith),
      byte i 3 lt (omega arith),
      byte i 4 lt (omega arith),
      byte i 5 lt (omega arith),
      byte i 6 lt (omega arith),
      byte i 7 lt (omega arith),
    ) in
    below_four _
    (rw (c.words_of.ensures 0 (omega arith), c.turned_round.ensures) (word 0 (omega arith)))
    (rw (c.words_of.ensures 1 (omega arith), c.turned_round.ensures) (word 1 (omega arith)))
    (rw (c.words_of.ensures 2 (omega arith), c.turned_round.ensures) (word 2 (omega arith)))
    (rw (c.words_of.ensures 3 (omega arith), c.turned_round.ensures) (word 3 (omega arith)))
