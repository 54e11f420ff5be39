use Rattle.std.proofs.Common.{◌≡◌, ◌+◌, ◌/◌, ◌++◌, sym, ◌∙◌, arith, length-append}
use Rattle.std.proofs.lemmas.Result.{IfOk-at_ok}
use Rattle.std.proofs.KnownBytes.{Consumes-trans}
use Rattle.source.proofs.Fronting.{Passes-trans}
use Rattle.source.proofs.Parting.{halved}
use Rattle.source.proofs.parts.+take_part.Goals as goal

pub take_part-requires : goal.take_part-requires
take_part-requires g t c κs within =
    let cut = halved c.args.first c.args.chunks _ c.requires.run c.requires.chunks (omega arith) c.requires.aligned in (
      omega (arith, c.decreases),
      (
        within,
        (
          c.requires.run,
          ((cut.power, cut.half), (cut.room, (cut.left, (c.requires.bound, (c.requires.some, c.requires.end))))),
        ),
      ),
    )

pub take_part-requires-2 : goal.take_part-requires-2
take_part-requires-2 g t c κs within =
    let cut = halved c.args.first c.args.chunks _ c.requires.run c.requires.chunks (omega arith) c.requires.aligned in
    let same = c.take_part.ensures.length in
    let taken = c.in_ok-left.ensures.taken in
    let some : c.in_ok-left.ahead ≡ 0 → c.args.first + c.args.chunks / 2 ≡ 0 = λ none. absurd (omega (arith, none)) in (
      omega (arith, c.decreases),
      (
        within,
        (
          (c.requires.run.0, same ∙ c.requires.run.1),
          ((cut.power, cut.half), (omega arith, (cut.right, (taken.within, (some, taken.end))))),
        ),
      ),
    )

pub unwrap-requires : goal.unwrap-requires
unwrap-requires g t c =
    let cut = halved c.args.first c.args.chunks _ c.requires.run c.requires.chunks (omega arith) c.requires.aligned in
    let left = c.in_ok-left.ensures.taken in
    let right = c.in_ok-right.ensures.taken in
    c.join.ensures.neighbours.1 (
      left.mode ∙ sym right.mode,
      (
        cut.power,
        omega (arith, left.full (omega arith)),
        rw (left.first, ← cut.double) c.requires.aligned,
        right.first ∙ omega (arith, left.first),
        omega (arith, right.most),
      ),
    )

pub returns-clause-taken : goal.returns-clause-taken
returns-clause-taken g t c =
    let cut = halved c.args.first c.args.chunks _ c.requires.run c.requires.chunks (omega arith) c.requires.aligned in
    let left = c.in_ok-left.ensures.taken in
    let right = c.in_ok-right.ensures.taken in
    let joined = IfOk-at_ok _ c.unwrap.ensures c.join.ensures.joined left.bytes right.bytes left.part right.part in
    let full = left.full (omega arith) in
    let bytes = length-append left.bytes right.bytes in
    record {
      mode = IfOk-at_ok _ c.unwrap.ensures c.join.ensures.mode ∙ left.mode;
      first = IfOk-at_ok _ c.unwrap.ensures c.join.ensures.first ∙ left.first;
      bytes = left.bytes ++ right.bytes;
      given = Consumes-trans _ _ _ left.bytes right.bytes left.given right.given;
      part = joined;
      most = omega (arith, joined.len, bytes, left.part.len, right.part.len, full, right.most);
      limit = omega (arith, joined.len, bytes, left.part.len, right.part.len, full, right.limit);
      full = λ some. let all = right.full some in
          omega (arith, joined.len, bytes, left.part.len, right.part.len, full, all);
      within = right.within;
      end = right.end;
    }

pub returns-in_err-right-clause-passed : goal.returns-in_err-right-clause-passed
returns-in_err-right-clause-passed g t c = Passes-trans _ _ _ _ c.take_part.ensures.passed c.take_part-2.ensures.passed

pub returns-clause-passed : goal.returns-clause-passed
returns-clause-passed g t c = Passes-trans _ _ _ _ c.take_part.ensures.passed c.take_part-2.ensures.passed
