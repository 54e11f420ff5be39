use Rattle.std.proofs.Common.{◌≡◌, ◌<◌, ◌*◌, ℕ, List, length}
use Rattle.sha2.specs.Sha256.{rounds, schedule}
use Rattle.words.specs.inside.Lanes.{lane8}
use Rattle.pieces.specs.inside.Rounds.{HasWords, IsAfterRounds}
use Rattle.pieces.proofs.sha_lanes.words32.all_steps.Given as goal

abbrev pub invariant-turns : goal.invariant-turns
invariant-turns l = record {
  words : length l.words ≡ 64;
  rounds : (i : ℕ) → i < 8 → (b : List ℕ) → HasWords (schedule b 48) 16 i l.fn.words
      → IsAfterRounds (rounds (lane8 i l.fn.v) (schedule b 48)) (schedule b 48) (8 * l.turn) i l.v l.words;
}
