use Rattle.std.proofs.Common.{◌≡◌, ◌-◌, ◌/◌, ◌*◌, ◌+◌, ℕ, List, arith, ap, ◌∙◌, take, drop, slice_index}
use Rattle.words.specs.Blake2.{blake2s}
use Rattle.words.specs.Words.{padded, words}
use Rattle.words.specs.inside.Lanes.{lane, lane8}
use Rattle.blake2.specs.Blake2.{chain}
use Rattle.blake2.specs.inside.Lengths.{block_len_2s}
use Rattle.pieces.proofs.PieceChains.{chain_last, chain_taken}
use Rattle.pieces.proofs.blake2s_lanes.final_values.Goals as goal

pub returns : goal.returns
returns c = λ i lt.
    let len : ℕ = slice_index c.args.lens.now i in
    let start : ℕ = slice_index c.args.starts.now i in
    let x : List ℕ = c.args.bytes.now in
    let first : List ℕ = c.args.first.now in
    let before : slice_index c.blocks_before-counts.result i ≡ (len - 1) / 64 = c.blocks_before-counts.ensures i lt in
    let chained : lane8 i c.take_each.new.values
    ≡ chain blake2s first (take len (drop start x)) ((len - 1) / 64) =
    c.take_each.ensures i lt ∙ rw (c.same_lanes-values.ensures i lt, before)
    (chain_taken blake2s 64 first x start len ((len - 1) / 64) block_len_2s (omega arith) (c.requires i lt)) in
    let tail : ℕ → List ℕ = λ k. words 4 16 (padded 64 (take (len - 64 * k) (drop (start + 64 * k) x))) in
    let read : lane i c.last_words-message.result ≡ tail ((len - 1) / 64) =
    c.last_words-message.ensures i lt ∙ ap tail before in
    c.lane_rows.ensures i lt
    ∙ chain_last blake2s 64 first x _ _ _ start len block_len_2s (omega arith) (c.requires i lt) chained read
    (omega arith) (omega arith) (c.next_lanes.ensures i lt)
