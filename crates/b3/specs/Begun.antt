-- Which plain numbers can be those of a hasher.
use Rattle.std.specs.Prelude.{◌<◌, ◌≤◌, ◌+◌, ◌-◌, ◌*◌, ◌^◌, count_ones}
use Rattle.b3.specs.declared.state.Blake3State.{Blake3State}

-- a mode, at most a chunk's bytes in the open chunk, a message within the limit, and no more chaining values than there
-- is room for; words and block can be anything
unfoldable pub IsBegun : Blake3State → Type 0
IsBegun s = (0 < s.mode) × (s.mode ≤ 256) × (s.len ≤ 1024) × (1024 * s.closed + s.len ≤ 2 ^ 64 - 1)
    × (count_ones s.closed ≤ 54)
