use Rattle.sumlist.proofs.Common.{◌≡◌, ◌++◌, [], arith, no_lines}
use Rattle.sumlist.proofs.Common.{err_from_is_err_and, length-append, refl, rules, ℕ}
use Rattle.std.proofs.KnownBytes.{Consumes-nil, Consumes-trans}
use Rattle.sumlist.proofs.Stepping.{all_read, checks-all, checks-halted, checks-line, checks-none, checks-stopped}
use Rattle.sumlist.proofs.Stepping.{kept-line, opens-line, opens-none, opens-stopped}
use Rattle.sumlist.proofs.checking.check_list.Goals as goal

pub returns-in_err-reader-clause-checked : goal.returns-in_err-reader-clause-checked
returns-in_err-reader-clause-checked g c = checks-all (λ _. refl) (checks-halted c.from_residual.ensures.0)

pub loop-reader-init : goal.loop-reader-init
loop-reader-init g c = let none : c.default-summary.result ≡ no_lines = grind arith in record {
  goes = rw (c.in_ok-reader.ensures, none) (λ r n d behind h. h);
  read = [];
  consumed = Consumes-nil (g.L.Feed.remaining c.args.list.now);
  once = rw c.in_ok-reader.ensures (λ n h. h);
  unreadable = rw none (search rules);
  opens = omega arith;
  ended = rw c.in_ok-reader.ensures (search rules);
  counts = rw (c.in_ok-reader.ensures, none) (search rules);
}

pub returns-in_err-next-clause-checked : goal.returns-in_err-next-clause-checked
returns-in_err-next-clause-checked g c =
    checks-all (λ _. refl) (c.loop-reader.invariant.goes _ _ _ c.args.share.now
    (checks-halted c.from_residual-in_err-next.ensures.0))

pub returns-in_err-mark-clause-checked : goal.returns-in_err-mark-clause-checked
returns-in_err-mark-clause-checked g c =
    let i = c.loop-reader.invariant in
    let next = rw c.if-branch.true at c.in_ok-next.ensures.line in
    let checked = rw (
      i.counts.kept,
      i.counts.entries,
      i.counts.name,
      i.counts.number,
      kept-line c.line.result c.next.new.self.kept c.line.ensures,
    ) at c.in_err-mark.ensures.checked in
    checks-all (λ _. refl) (i.goes _ _ _ c.args.share.now (checks-stopped _ _ _ _ c.next.new.self.ahead _ next _
    c.in_err-mark.field-0.0 c.from_residual-in_err-mark.ensures.0 checked))

pub loop-reader-preserved : goal.loop-reader-preserved
loop-reader-preserved g c =
    let i = c.loop-reader.invariant in
    let gave = c.in_ok-next.ensures.gave in
    let forth = c.in_ok-next.ensures.forth c.if-branch.true in
    let next = rw c.if-branch.true at c.in_ok-next.ensures.line in
    let checked = rw (
      i.counts.kept,
      i.counts.entries,
      i.counts.name,
      i.counts.number,
      kept-line c.line.result c.next.new.self.kept c.line.ensures,
    ) at c.in_ok-mark.ensures.checked in
    record {
      goes = λ r n d behind later. i.goes r n d behind
          (checks-line _ _ _ _ c.next.new.self.ahead _ next _ _ c.count.ensures.counted checked later);
      read = i.read ++ gave.0;
      consumed = Consumes-trans _ _ _ _ _ i.consumed gave.1;
      once = λ n later. i.once n (opens-line _ _ _ _ _ next c.in_ok-mark.ensures.once n later);
      unreadable = grind arith;
      opens = grind arith;
      ended = c.in_ok-next.ensures.end;
      counts = grind (arith, length-append {A = ℕ}, forth);
    }

pub returns-clause-checked : goal.returns-clause-checked
returns-clause-checked g c =
    let ended = rw c.if-branch.false at c.in_ok-next.ensures.line in
    checks-all (grind arith) (c.loop-reader.invariant.goes _ _ _ _ (checks-none (g.L.Feed.remaining c.next.new.feed)
    c.next.new.self.ahead ended))

pub returns-in_err-next-clause-gave : goal.returns-in_err-next-clause-gave
returns-in_err-next-clause-gave g c =
    let i = c.loop-reader.invariant in
    let gave = c.in_err-next.ensures.gave in
    let exit = c.from_residual-in_err-next in
    let fault = err_from_is_err_and exit.result exit.ensures.1 in
    rw (fault.1, fault.2) (all_read _ _ _ i.read gave.0 _ i.consumed gave.1
    (grind (arith, length-append {A = ℕ})))

pub returns-in_err-mark-clause-gave : goal.returns-in_err-mark-clause-gave
returns-in_err-mark-clause-gave g c =
    let i = c.loop-reader.invariant in
    let gave = c.in_ok-next.ensures.gave in
    let exit = c.from_residual-in_err-mark in
    let fault = err_from_is_err_and exit.result exit.ensures.1 in
    rw (fault.1, fault.2) (all_read _ _ _ i.read gave.0 _ i.consumed gave.1
    (grind (arith, length-append {A = ℕ})))

pub returns-clause-gave : goal.returns-clause-gave
returns-clause-gave g c =
    let i = c.loop-reader.invariant in
    let gave = c.in_ok-next.ensures.gave in
    all_read _ _ _ i.read gave.0 _ i.consumed gave.1 (grind (arith, length-append {A = ℕ}))

pub returns-in_err-next-clause-once : goal.returns-in_err-next-clause-once
returns-in_err-next-clause-once g c = (c.loop-reader.invariant.once _ (opens-none _ _ _)).of

pub returns-in_err-mark-clause-once : goal.returns-in_err-mark-clause-once
returns-in_err-mark-clause-once g c =
    let next = rw c.if-branch.true at c.in_ok-next.ensures.line in
    (c.loop-reader.invariant.once _ (opens-stopped _ _ _ _ c.next.new.self.ahead next c.in_err-mark.ensures.once)).of

pub returns-clause-once : goal.returns-clause-once
returns-clause-once g c = (c.loop-reader.invariant.once _ (opens-none _ _ _)).of

pub returns-clause-opens : goal.returns-clause-opens
returns-clause-opens g c = c.loop-reader.invariant.opens
