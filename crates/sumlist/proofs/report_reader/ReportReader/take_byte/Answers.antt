use Rattle.sumlist.proofs.Common.{◌≤◌, ◌+◌, ◌∷◌, ◌∙◌, None, ap, arith, drop, length, take}
use Rattle.sumlist.proofs.TakenTexts.{ahead-cons, byte-other, byte-taken}
use Rattle.sumlist.proofs.report_reader.ReportReader.take_byte.Goals as goal

pub returns-then-self-byte-clause-taken : goal.returns-then-self-byte-clause-taken
returns-then-self-byte-clause-taken g c =
    let s = c.has_more.new.self in
    let more = rw c.if-not-branch.false at c.in_ok-has_more.ensures.more in
    let some = c.in_ok-has_more.ensures.ahead c.if-not-branch.false in
    let within : s.end ≤ length s.buffer = omega arith in
    byte-other _ _ _ (ahead-cons s.buffer s.start s.end some within) _ _ None c.args.byte more c.if-self-byte.true

pub returns-clause-taken : goal.returns-clause-taken
returns-clause-taken g c =
    let s = c.has_more.new.self in
    let more = rw c.if-not-branch.false at c.in_ok-has_more.ensures.more in
    let some = c.in_ok-has_more.ensures.ahead c.if-not-branch.false in
    let within : s.end ≤ length s.buffer = omega arith in
    byte-taken _ _ c.args.byte
    (ahead-cons s.buffer s.start s.end some within
    ∙ ap (λ x. x ∷ drop (s.start + 1) (take s.end s.buffer)) c.if-self-byte.false) _ _ more
