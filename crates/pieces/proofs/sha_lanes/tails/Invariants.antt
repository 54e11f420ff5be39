use Rattle.std.proofs.Common.{◌≡◌, ◌<◌, ◌≤◌, ◌+◌, ◌-◌, ◌%◌, ◌++◌, [], ℕ, List}
use Rattle.std.proofs.Common.{drop, length, replicate, slice_index, slice_index_or, take}
use Rattle.pieces.specs.inside.Blocks.{padding}
use Rattle.pieces.proofs.sha_lanes.tails.Given as goal

abbrev pub invariant-rows : goal.invariant-rows
invariant-rows g l = record {
  size : length l.rows ≡ g.row.LANES;
  value : (k : ℕ) → k < l.i → let len : ℕ = slice_index l.lens k in
      let count : List ℕ = slice_index_or l.counts k [] in
      take (len % g.row.N + length (padding g.row.N count len)) (slice_index_or l.rows k [])
      ≡ take (len % g.row.N) (drop (slice_index l.starts k + (len - len % g.row.N)) l.bytes)
      ++ padding g.row.N count len;
  whole : (k : ℕ) → k < l.i → length (slice_index_or l.rows k []) ≡ g.row.TWO;
  rest : (k : ℕ) → l.i ≤ k → k < g.row.LANES → slice_index_or l.rows k [] ≡ replicate g.row.TWO 0;
}
