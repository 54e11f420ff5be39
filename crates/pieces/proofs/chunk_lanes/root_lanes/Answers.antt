use Rattle.std.proofs.Common.{◌≡◌, ℕ, ◌-◌, ◌*◌, ◌/◌, slice_index, refl, ap, ◌∙◌, arith}
use Rattle.std.proofs.lemmas.Simd.{get_or-replicate}
use Rattle.words.specs.Tables.{iv32}
use Rattle.b3.specs.Chunk.{start_flag, value_before}
use Rattle.pieces.proofs.Chunks.{message, root_words, value_more}
use Rattle.pieces.proofs.chunk_lanes.root_lanes.Goals as goal

pub each_block-init : goal.each_block-init
unfolding value_before
each_block-init c = c.same_lanes-values.ensures

pub each_block-preserved : goal.each_block-preserved
each_block-preserved c = λ i h.
    value_more c.args.bytes.now _ _ _ (slice_index c.args.starts.now i) c.args.len c.each_block.j _ _ (omega arith)
    (c.requires.fits i h) (c.each_block.invariant i h) (c.message_lanes-message.ensures i h)
    (get_or-replicate {A = ℕ} 8 i 0 0 h) c.flag_of_start.ensures.value (c.next_lanes-next.ensures i h)

pub returns : goal.returns
returns c = λ i h.
    let len : ℕ = c.args.len in
    let s : ℕ = slice_index c.args.starts.now i in
    let last : ℕ = (len - 1) / 64 in
    let at : c.each_block.j ≡ last = omega arith in
    let flag : c.flag_of_start-2.result ≡ start_flag last = c.flag_of_start-2.ensures.value in
    root_words c.tree_laws.ensures.one c.args.bytes.now _ _ _ s len last (len - 64 * last) _ _ c.requires.some
    c.requires.chunk (c.requires.fits i h) refl refl
    (c.each_block.invariant i h
    ∙ ap (λ (j : ℕ). value_before iv32 0 0 (message c.args.bytes.now s len) j) at)
    (c.last_lanes-message.ensures i h) (get_or-replicate {A = ℕ} 8 i 0 0 h) (omega arith)
    (c.next_lanes.ensures i h)
