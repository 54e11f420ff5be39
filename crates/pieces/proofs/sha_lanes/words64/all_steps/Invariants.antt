use Rattle.std.proofs.Common.{◌≡◌, ◌<◌, ◌*◌, ℕ, List, length}
use Rattle.sha2.specs.Sha512.{rounds, schedule}
use Rattle.words.specs.inside.Lanes.{lane8}
use Rattle.pieces.specs.inside.Rounds.{HasWords, IsAfterRounds}
use Rattle.pieces.proofs.sha_lanes.words64.all_steps.Given as goal

abbrev pub invariant-turns : goal.invariant-turns
invariant-turns l = record {
  words : length l.words ≡ 80;
  rounds : (i : ℕ) → i < 4 → (b : List ℕ) → HasWords (schedule b 64) 16 i l.fn.words
      → IsAfterRounds (rounds (lane8 i l.fn.v) (schedule b 64)) (schedule b 64) (8 * l.turn) i l.v l.words;
}
