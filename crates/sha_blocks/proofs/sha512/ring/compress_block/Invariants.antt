use Rattle.std.proofs.Common.{◌≡◌, ◌<◌, ◌*◌, ℕ, length, slice_index}
use Rattle.sha2.specs.Sha512.{IsRoundsAt, word_at}
use Rattle.sha_blocks.proofs.sha512.ring.compress_block.Given as goal

abbrev pub invariant-load : goal.invariant-load
invariant-load l = record {
  whole : length l.ring ≡ 16;
  written : (k : ℕ) → k < l.t → slice_index l.ring k ≡ word_at l.block (8 * k);
}

abbrev pub invariant-turns : goal.invariant-turns
invariant-turns l = IsRoundsAt l.block l.fn.h l.ring l.v (16 * l.turn)
