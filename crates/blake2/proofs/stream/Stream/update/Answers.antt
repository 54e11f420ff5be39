use Rattle.std.proofs.Common.{◌≡◌, ◌<◌, ◌+◌, ◌*◌, ◌/◌, ◌-◌, ◌++◌, ℕ, subst, refl, ◌∙◌, ap, arith, length}
use Rattle.blake2.specs.Blake2.{block_len}
use Rattle.blake2.proofs.Blocks.{chunks_len, tail_fits, whole_chunks}
use Rattle.blake2.proofs.Holding.{IsHeld_short, update_long}
use Rattle.blake2.proofs.stream.Stream.update.Goals as goal

pub returns-then-piece-space-clause-held : goal.returns-then-piece-space-clause-held
returns-then-piece-space-clause-held g c = λ s p held.
    let w : g.row.N ≡ block_len g.C.Chain.variant = g.met.C.Chain.block in
    let pos : 0 < block_len g.C.Chain.variant = subst (λ (n : ℕ). 0 < n) w g.met.C.Chain.positive in
    IsHeld_short g.C.Chain.variant s pos p _ c.args.self.now.buffer _ c.args.piece.now _ _ held
    (omega arith) c.write_at.ensures.front

pub returns-clause-held : goal.returns-clause-held
returns-clause-held g c = λ s p held.
    let w : g.row.N ≡ block_len g.C.Chain.variant = g.met.C.Chain.block in
    let pos : 0 < g.row.N = g.met.C.Chain.positive in
    let pos' : 0 < block_len g.C.Chain.variant = subst (λ (n : ℕ). 0 < n) w pos in
    let head = c.split_at.result.0.now in
    let rest = c.split_at.result.1.now in
    let body = c.split_at-2.result.0.now in
    let tail = c.split_at-2.result.1.now in
    let cut : c.args.piece.now ≡ head ++ (body ++ tail) = c.split_at.ensures.by_index.0
    ∙ ap (λ x. head ++ x) c.split_at-2.ensures.by_index.0 in
    let filled = c.compress_blocks-count.ensures.single _ c.from_ref-filled.ensures.value in
    let count : c.compress_blocks-count.result ≡ c.args.self.now.compressed + g.row.N * 1 =
    rw c.from_ref-filled.ensures.len at c.compress_blocks-count.ensures.count in
    let count' : c.compress_blocks-count.result ≡ c.args.self.now.compressed + g.row.N = omega arith in
    update_long g.C.Chain.variant s pos' p _ c.args.self.now.buffer c.args.piece.now head body tail
    _ (g.C.Chain.value c.compress_blocks-count.new.chain) _ _ c.as_chunks.result.0.now _ _ _ g.row.N w held
    (omega arith) (omega arith) cut (omega arith) filled.0 c.write_at-2.ensures.front
    filled.1 (λ s' p' m e. c.compress_blocks-self.ensures.chained s' p' m refl refl (count' ∙ e))
    (whole_chunks g.row.N ((length rest - 1) / g.row.N) body c.as_chunks.result.0.now pos
    c.split_at-2.ensures.front_len c.as_chunks.ensures.front)
    (rw count' at c.compress_blocks-self.ensures.count) (omega arith)
    (tail_fits g.row.N (length rest) (length tail) _ pos refl c.split_at-2.ensures.back_len)
    c.write_at-3.ensures.front

pub returns-clause-count : goal.returns-clause-count
returns-clause-count g c =
    let rest = c.split_at.result.1.now in
    let body = c.split_at-2.result.0.now in
    let blocks : g.row.N * length c.as_chunks.result.0.now ≡ length body =
    chunks_len g.row.N ((length rest - 1) / g.row.N) (length body) _ g.met.C.Chain.positive
    c.split_at-2.ensures.front_len c.as_chunks.ensures.front_len in
    let count : c.compress_blocks-count.result ≡ c.args.self.now.compressed + g.row.N * 1 =
    rw c.from_ref-filled.ensures.len at c.compress_blocks-count.ensures.count in
    omega arith
