use Rattle.std.proofs.KnownBytes.{Consumes-nil, Consumes-trans}
use Rattle.sumlist.proofs.Common.{◌≡◌, ◌∙◌, ◌++◌, [], All-append, Bool, List, Option, Some, append-nil, append_assoc}
use Rattle.sumlist.proofs.Common.{ap, arith, eqb, err_from_is_err_and, false, length, length-append, refl, subst}
use Rattle.sumlist.proofs.Common.{sym, true, ℕ}
use Rattle.std.specs.Io.KnownBytes.{IsAtEnd}
use Rattle.std.specs.Prelude.{IsTrue, not, ◌↔◌}
use Rattle.sumlist.specs.Lines.{IsKept}
use Rattle.sumlist.specs.inside.Cut.{HasNo}
use Rattle.sumlist.specs.inside.Taking.{Cutting, IsNextPiece, IsTaken}
use Rattle.sumlist.proofs.Cutting.{IfSome-read, IsKept-after, pieces-cut, pieces-last, some_kept}
use Rattle.sumlist.proofs.line_reader.LineReader.next.Goals as goal

module _ (end : ℕ) (r s : Cutting) (front whole : List ℕ) (kept : IsKept r.kept front) (free : HasNo end front)
    (is : whole ≡ front ++ r.ahead) where
  -- the end was found
  found : IsTaken end true r s → (left : List ℕ) → IsNextPiece end true s.kept (whole ++ left) (s.ahead ++ left)
  found t left =
      let cut = pieces-cut end r.ahead t.0 s.ahead t.1 front left free in
      (front ++ t.0, rw t.3 (IsKept-after r.kept front t.0 kept), rw (is, append_assoc) cut)

  -- all that is ahead belongs to the line
  all_taken : IsTaken end false r s → IsKept s.kept whole × HasNo end whole
  all_taken t =
      rw (is, t.4) (IsKept-after r.kept front r.ahead kept, All-append (λ x. eqb x end ≡ false) front r.ahead free t.0)

-- nothing more is to come
ended : (end : ℕ) (is_empty : Bool) (kept : Option (List ℕ)) (whole : List ℕ) → IsTrue is_empty ↔ (kept ≡ Some [])
    → IsKept kept whole × HasNo end whole → IsNextPiece end (not is_empty) kept whole []
ended end is_empty kept whole empty h = grind (arith, pieces-last, some_kept)

pub returns-then-self-clause-line : goal.returns-then-self-clause-line
returns-then-self-clause-line g c =
    let end = c.requires (sym (ap (λ (r : Cutting). r.is_at_end) c.self.view_is) ∙ c.if-self.true) in
    IfSome-read (g.F.Feed.remaining c.args.feed.now) _ [] _ (Consumes-nil _)
    (λ left is. let over : left ≡ [] = subst IsAtEnd is end.1 in
    let none : c.args.self.now.ahead ++ left ≡ [] = rw (end.0, over) refl in (left, is, (none, none)))

pub returns-then-self-clause-gave : goal.returns-then-self-clause-gave
returns-then-self-clause-gave g c = ([], Consumes-nil _, grind arith, grind arith)

pub returns-then-take-clause-line : goal.returns-then-take-clause-line
returns-then-take-clause-line g c =
    let i = c.lines.invariant in
    let next = found c.args.end c.lines.self c.take.new.self i.front _ i.kept i.free i.whole c.if-take.ensures in
    IfSome-read (g.F.Feed.remaining c.args.feed.now) _ i.read _ i.consumed
    (λ left is. (left, is, rw (← append_assoc) (next left)))

pub returns-then-take-clause-forth : goal.returns-then-take-clause-forth
returns-then-take-clause-forth g c =
    let i = c.lines.invariant in
    let t = c.if-take.ensures in
    λ _. grind (arith, ap length i.whole, ap length t.1.0, length-append {A = ℕ})

pub returns-in_err-fill-clause-gave : goal.returns-in_err-fill-clause-gave
returns-in_err-fill-clause-gave g c =
    let i = c.lines.invariant in
    let gave = c.in_err-fill.ensures.gave in
    let fault = err_from_is_err_and c.from_residual.result c.from_residual.ensures.1 in
    let all = Consumes-trans _ _ _ _ _ i.consumed gave.1 in
    rw (fault.1, fault.2) (i.read ++ gave.0, all, grind (arith, length-append {A = ℕ}), tt)

pub returns-then-not-branch-clause-line : goal.returns-then-not-branch-clause-line
returns-then-not-branch-clause-line g c =
    let i = c.lines.invariant in
    let gave = c.in_ok-fill.ensures.gave in
    let end = gave.3.3 c.if-not-branch.true in
    let all = all_taken c.args.end c.lines.self c.take.new.self i.front _ i.kept i.free i.whole c.if-take.ensures in
    let last = ended c.args.end c.is_empty.result _ _ c.is_empty.ensures (rw (← c.in_ok-fill.ensures.kept.0) at all) in
    IfSome-read (g.F.Feed.remaining c.args.feed.now) _ (i.read ++ gave.0) _
    (Consumes-trans _ _ _ _ _ i.consumed gave.1) (λ left is. let over : left ≡ [] = subst IsAtEnd is end.1 in
    (left, is, simp (end.0, gave.3.1, over, append-nil) last))

pub lines-preserved : goal.lines-preserved
lines-preserved g c =
    let i = c.lines.invariant in
    let gave = c.in_ok-fill.ensures.gave in
    let all = all_taken c.args.end c.lines.self c.take.new.self i.front _ i.kept i.free i.whole c.if-take.ensures in
    record {
      read = i.read ++ gave.0;
      consumed = Consumes-trans _ _ _ _ _ i.consumed gave.1;
      front = c.args.self.now.ahead ++ i.read;
      kept = rw c.in_ok-fill.ensures.kept.0 all.0;
      free = all.1;
      whole = rw gave.3.1 (sym (append_assoc c.args.self.now.ahead i.read gave.0));
      counts = grind (arith, length-append {A = ℕ});
    }
