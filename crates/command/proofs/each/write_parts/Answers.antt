use Rattle.std.proofs.Common.{◌∙◌, ◌-◌, ◌^◌, arith, refl}
use Rattle.std.proofs.Math.Nat.{mul-mod_right}
use Rattle.b3.proofs.Powers.{pow_from_ones}
use Rattle.command.proofs.EachPart.{each_end, each_ended, each_far, each_last, each_more, each_start, each_stopped}
use Rattle.command.proofs.EachPart.{each_unwritten}
use Rattle.command.proofs.Starting.{before_end}
use Rattle.command.proofs.each.write_parts.Goals as goal

pub parts-init : goal.parts-init
parts-init g c =
    let file = c.args.file in record {
      so = λ content gives. each_start file.share c.args.chunks content
          (λ i. g.P.Places.gives c.args.places.now i file.name.now content) _ _ _ g.P.Places.is_anywhere
          c.requires.chunks.0
          file.within
          c.requires.share (λ a b. g.met.P.Places.moves c.args.places.now a b file.name.now content) gives;
      same = refl;
      size = refl;
    }

pub part-requires : goal.part-requires
part-requires g c =
    let size = c.parts.invariant.size in
    let within = c.requires.within in
    let most = c.requires.chunks.1 in
    let some = c.requires.chunks.0 in
    record {
      before = before_end c.args.chunks c.parts.number (omega arith);
      run_is = (c.requires.run.0, size ∙ c.requires.run.1);
      room_is = pow_from_ones 55 c.args.chunks (omega (arith, most)) c.requires.chunks.2;
      within = omega (arith, size, within);
      aligned = mul-mod_right c.args.chunks c.parts.number;
      some = λ none. (let it = rw none at c.chunk_bytes-bytes.ensures in absurd (omega (arith, it.1, some)));
    }

pub returns-in_err-part-clause-printed : goal.returns-in_err-part-clause-printed
returns-in_err-part-clause-printed g c = λ content gives.
    let so = c.parts.invariant.so content gives in
    each_stopped so c.args.file.name.now _ _ c.part.ensures.opens _ c.chunk_bytes-bytes.ensures (omega arith)
    c.in_err-part.field-0.0 _
    c.from_residual.ensures.1 (c.in_err-part.ensures.part content so.at) (c.in_err-part.ensures.counted content so.at)

pub returns-in_default-clause-printed : goal.returns-in_default-clause-printed
returns-in_default-clause-printed g c = λ content gives.
    let so = c.parts.invariant.so content gives in
    each_ended so c.args.file.name.now _ _ c.part.ensures.opens _ c.chunk_bytes-bytes.ensures (omega arith)
    (rw c.in_default.is at (c.in_ok-part.ensures.part content so.at)) (c.in_ok-part.ensures.counted content so.at)

pub returns-in_err-write_part-clause-printed : goal.returns-in_err-write_part-clause-printed
returns-in_err-write_part-clause-printed g c = λ content gives.
    let so = c.parts.invariant.so content gives in
    each_unwritten so c.args.file.name.now _ _ c.part.ensures.opens _ c.chunk_bytes-bytes.ensures (omega arith)
    c.in-Some.part (rw c.in-Some.is at (c.in_ok-part.ensures.part content so.at))
    (c.in_ok-part.ensures.counted content so.at) _ _ c.from_residual-in_err-write_part.ensures.1
    c.in_err-write_part.ensures

pub returns-then-whole-chunks-clause-printed : goal.returns-then-whole-chunks-clause-printed
returns-then-whole-chunks-clause-printed g c = λ content gives.
    let so = c.parts.invariant.so content gives in
    let len = c.len.ensures in
    let short = c.if-whole-chunks.true in
    each_last so c.args.file.name.now _ _ c.part.ensures.opens _ c.chunk_bytes-bytes.ensures (omega arith)
    c.in-Some.part
    (rw c.in-Some.is at (c.in_ok-part.ensures.part content so.at)) (c.in_ok-part.ensures.counted content so.at) _
    (omega (arith, len, short)) c.in_ok-write_part.ensures

pub parts-preserved : goal.parts-preserved
parts-preserved g c =
    let size = c.parts.invariant.size in
    let auto = c.part.auto.run in
    let len = c.len.ensures in
    let full = c.if-whole-chunks.false in
    let next = c.saturating_add.ensures in
    let after = c.saturating_add-number.ensures in
    record {
      so = λ content gives.
          let so = c.parts.invariant.so content gives in
          each_more so c.args.file.name.now _ _ c.part.ensures.opens _ c.chunk_bytes-bytes.ensures (omega arith)
          c.in-Some.part (rw c.in-Some.is at (c.in_ok-part.ensures.part content so.at))
          (c.in_ok-part.ensures.counted content so.at) _ _ g.P.Places.is_anywhere
          (λ i. g.P.Places.gives c.part.new.self i c.args.file.name.now content) c.requires.share
          (λ a b. g.met.P.Places.moves c.part.new.self a b c.args.file.name.now content)
          (c.in_ok-part.ensures.left content so.at) (omega (arith, next, after)) (omega (arith, len, full))
          c.in_ok-write_part.ensures;
      same = c.part.ensures.same ∙ c.parts.invariant.same;
      size = omega (arith, size, auto);
    }

pub returns-clause-printed : goal.returns-clause-printed
returns-clause-printed g c = λ content gives.
    let so = c.parts.invariant.so content gives in
    let end = c.parts-test.false in
    each_end so c.args.file.name.now _ _ c.end_at.ensures.opens c.args.file.name _ refl (omega (arith, end))
    (c.end_at.ensures.end content (each_far so (2 ^ 64 - 1) g.P.Places.is_anywhere c.requires.share
    (g.met.P.Places.moves c.parts.places _ (2 ^ 64 - 1) c.args.file.name.now content) (omega (arith, end))))
