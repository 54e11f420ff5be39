-- What HMAC requires of a hash function's numbers (RFC 2104, 2).
use Rattle.std.specs.Prelude.{ℕ, ◌<◌, ◌≤◌, ◌-◌, ◌^◌}

-- the bytes in a block, in a digest and in the longest input: a block has at most 128; a digest has at least one, at
-- most 64 and no more than a block; an input of 2^61 - 1 bytes is accepted
pub record AreNumbers (block out limit : ℕ) : Type 0 where
  pub out_is_positive : 0 < out
  pub out_within_block : out ≤ block
  pub block_is_small : block ≤ 128
  pub out_is_small : out ≤ 64
  pub limit_is_large : 2 ^ 61 - 1 ≤ limit
