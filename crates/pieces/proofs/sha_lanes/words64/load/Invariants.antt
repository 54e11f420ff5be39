use Rattle.std.proofs.Common.{◌≡◌, ◌<◌, ◌+◌, ℕ, length, take, drop, slice_index}
use Rattle.sha2.specs.Sha512.{schedule}
use Rattle.pieces.specs.inside.Rounds.{HasWords}
use Rattle.pieces.proofs.sha_lanes.words64.load.Given as goal

abbrev pub invariant-first : goal.invariant-first
invariant-first l = record {
  words : length l.words ≡ 80;
  written : (i : ℕ) → i < 4
      → HasWords (schedule (take 128 (drop (slice_index l.starts i + l.at) l.bytes)) 64) l.t i l.words;
}
