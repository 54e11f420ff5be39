use Rattle.hashes.specs.declared.share.Share.{Share}
use Rattle.sumlist.proofs.Common.{◌≡◌, CheckFault, Err, Files, IfSome_then, List, ListChecked, Meaning, None, Ok}
use Rattle.sumlist.proofs.Common.{Option, Outcome, Result, Some, Summary, [], refl, skipped, subst, unkeyed, ℕ, ◌∷◌}
use Rattle.sumlist.specs.Shared.{shared}
use Rattle.sumlist.proofs.checking.check.Goals as goal

abbrev whole : Share
whole = record { others = 0; waiting = 0 }

whole_is : (others waiting : ℕ) → others ≡ 0 → waiting ≡ 0
    → ◌≡◌ {A = Share} (record { others = others; waiting = waiting }) whole
whole_is others waiting o w = rw (o, w) refl

-- with no others none is passed over
none_waits : (os : List Outcome) → (shared 0 0 os).1 ≡ 0
none_waits [] = refl
none_waits (skipped ∷ os) = none_waits os
none_waits (o ∷ os) = none_waits os

module _ (files : Files) (k : Meaning) (name : Option (List ℕ)) (list : List ℕ) (behind : Share) (m n : ℕ)
    (b c : Option (List ℕ)) where
  whole_behind : (r : Result Summary CheckFault) → ListChecked files k name list whole behind r m n b c
      → ListChecked files k name list whole whole r m n b c
  whole_behind (Ok s) h = (h.0, h.1, (h.2.0, (h.2.1.0, rw (none_waits h.0) refl, h.2.1.2)))
  whole_behind (Err f) h = (h.0, h.1, (h.2.0, (refl, h.2.1.1)))

  whole_checked : (share : Share) (r : Result Summary CheckFault) → share ≡ whole
      → ListChecked files k name list share behind r m n b c → ListChecked files k name list whole whole r m n b c
  whole_checked share r is h =
      whole_behind r (subst (λ x. ListChecked files k name list x behind r m n b c) is h)

pub returns-clause-checked : goal.returns-clause-checked
returns-clause-checked g c =
    let is = whole_is c.whole.result.others c.whole.result.waiting c.whole.ensures.others c.whole.ensures.waiting in
    IfSome_then (g.L.Feed.remaining c.args.list.now) c.check_list.ensures.checked (λ bytes checked.
    IfSome_then (g.T.Tree.files c.args.tree.now) checked (λ files h.
    whole_checked files (unkeyed (Some c.args.kind)) None bytes c.check_list.new.share
    (g.T.Tree.failure_count c.args.tree.now) (g.T.Tree.failure_count c.check_list.new.tree)
    (g.W.Sink.shown c.args.out.now).contents (g.W.Sink.shown c.check_list.new.out).contents
    c.whole.result c.check_list.result is h))
