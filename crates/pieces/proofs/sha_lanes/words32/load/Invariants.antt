use Rattle.std.proofs.Common.{◌≡◌, ◌<◌, ◌+◌, ℕ, length, take, drop, slice_index}
use Rattle.sha2.specs.Sha256.{schedule}
use Rattle.pieces.specs.inside.Rounds.{HasWords}
use Rattle.pieces.proofs.sha_lanes.words32.load.Given as goal

abbrev pub invariant-first : goal.invariant-first
invariant-first l = record {
  words : length l.words ≡ 64;
  written : (i : ℕ) → i < 8
      → HasWords (schedule (take 64 (drop (slice_index l.starts i + l.at) l.bytes)) 48) l.t i l.words;
}
