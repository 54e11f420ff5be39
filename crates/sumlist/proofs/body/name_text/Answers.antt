use Rattle.sumlist.proofs.Common.{◌+◌, ◌≡◌, ◌≤◌, [], arith, if◌then◌else◌, nil_from_length, refl}
use Rattle.sumlist.proofs.Names.{is_name, read_none, read_more, read_nul}
use Rattle.sumlist.proofs.body.name_text.Goals as goal

pub loop-rest-init : goal.loop-rest-init
loop-rest-init c = record { read = read_none _ _; bound = omega arith }

pub returns-then-byte-eq0 : goal.returns-then-byte-eq0
returns-then-byte-eq0 c = λ n.
    n.3.without_nul (read_nul c.loop-rest.invariant.read c.in_ok-byte.ensures c.if-byte-eq0.true n.0 n.1)

pub loop-rest-preserved : goal.loop-rest-preserved
loop-rest-preserved c = record {
  read = read_more c.loop-rest.invariant.read c.in_ok-byte.ensures c.if-byte-eq0.false (grind arith)
      c.is_special-is_one.ensures;
  bound = grind arith;
}

pub returns-then-len-eq0 : goal.returns-then-len-eq0
returns-then-len-eq0 c = λ n.
    let none : c.loop-rest.rest.now ≡ [] = grind (arith, nil_from_length) in
    ((is_name c.args.digits (rw none at c.loop-rest.invariant.read)).0 n).0 c.if-len-eq0.true

pub returns-then-from-digits-gt-LINE_LIMIT : goal.returns-then-from-digits-gt-LINE_LIMIT
returns-then-from-digits-gt-LINE_LIMIT c = λ n.
    let none : c.loop-rest.rest.now ≡ [] = grind (arith, nil_from_length) in
    let within = ((is_name c.args.digits (rw none at c.loop-rest.invariant.read)).0 n).1 in
    absurd (grind arith)

pub returns-in-Ok : goal.returns-in-Ok
returns-in-Ok c =
    let none : c.loop-rest.rest.now ≡ [] = grind (arith, nil_from_length) in
    let within : (if c.loop-rest.has_special then 1 else 0) + c.args.digits + 2 + c.loop-rest.len ≤ 65536
    = grind arith in
    let text = c.in-Ok.ensures.cases in
    ((is_name _ (rw none at c.loop-rest.invariant.read)).1 (c.if-len-eq0.false, within, text.1), text.0, refl)

pub returns-in-Err : goal.returns-in-Err
returns-in-Err c = λ n.
    let none : c.loop-rest.rest.now ≡ [] = grind (arith, nil_from_length) in
    c.in-Err.ensures.cases.0 ((is_name _ (rw none at c.loop-rest.invariant.read)).0 n).2
