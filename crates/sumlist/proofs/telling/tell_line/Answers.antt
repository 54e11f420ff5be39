use Rattle.sumlist.proofs.Common.{None}
use Rattle.std.specs.Prelude.{option_map}
use Rattle.sumlist.proofs.ToldLines.{malformed-or-other, other-entry, told-entry}
use Rattle.sumlist.specs.inside.Stepped.{meaning_of}
use Rattle.sumlist.specs.inside.Telling.{left}
use Rattle.sumlist.proofs.telling.tell_line.Goals as goal

pub returns-in-Some-2-clause-told : goal.returns-in-Some-2-clause-told
returns-in-Some-2-clause-told g c =
    let m = meaning_of g.M.MakesTag.limit g.M.MakesTag.makes c.args.entries.now in
    let spelled = rw c.in-Ok-Entry.field-0-is at c.in-Ok-Entry.ensures in
    let verdict = c.in_ok-verdict-in-Ok-Entry in
    let came = rw (c.in-Some-2.is, c.name.ensures.value, c.in-Ok-Entry.field-0-is) at verdict.ensures.taken in
    λ whole kept. let same = rw c.in-Some.is at kept in rw same.0
    (told-entry m (option_map (λ n. n.now) c.args.name) c.in-Some.line.now c.args.number c.in-Ok-Entry.entry spelled
    (left g.F.Feed.remaining c.args.report.now) (left g.F.Feed.remaining c.take_verdict.new.self) c.in-Some-2.verdict
    came)

pub returns-in-Ok-Entry-clause-told : goal.returns-in-Ok-Entry-clause-told
returns-in-Ok-Entry-clause-told g c =
    let m = meaning_of g.M.MakesTag.limit g.M.MakesTag.makes c.args.entries.now in
    let spelled = rw c.in-Ok-Entry.field-0-is at c.in-Ok-Entry.ensures in
    let verdict = c.in_ok-verdict-in-Ok-Entry in
    let missed = rw (c.in-None.is, c.name.ensures.value, c.in-Ok-Entry.field-0-is) at verdict.ensures.taken in
    λ whole kept. let same = rw c.in-Some.is at kept in rw same.0
    (other-entry m (option_map (λ n. n.now) c.args.name) c.in-Some.line.now c.args.number c.in-Ok-Entry.entry spelled
    (left g.F.Feed.remaining c.args.report.now) None missed)

pub returns-in-Err-Malformed-clause-told : goal.returns-in-Err-Malformed-clause-told
returns-in-Err-Malformed-clause-told g c =
    let m = meaning_of g.M.MakesTag.limit g.M.MakesTag.makes c.args.entries.now in
    let came = c.in_ok-came-in-Err-Malformed in
    λ whole kept. let same = rw c.in-Some.is at kept in
    rw (same.0, c.ok_or-in-Err-Malformed.ensures.value, c.then_some-in-Err-Malformed.ensures)
    (malformed-or-other m (option_map (λ n. n.now) c.args.name) c.in-Some.line.now c.args.number
    c.malformed_mark.result c.malformed_mark.ensures (left g.F.Feed.remaining c.args.report.now)
    (left g.F.Feed.remaining c.take_malformed-in-Err-Malformed.new.self) came.came came.ensures.taken)
