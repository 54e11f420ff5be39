use Rattle.sumlist.proofs.Common.{IfSome_then, arith, inr, nat_tests}
use Rattle.std.specs.Prelude.{option_map}
use Rattle.sumlist.proofs.SharedLines.{line-own, line-passed, line-skipped}
use Rattle.sumlist.proofs.Stepping.{IfSome-all}
use Rattle.sumlist.specs.inside.Stepped.{meaning_of}
use Rattle.sumlist.proofs.checking.Checker.next_mark.Goals as goal

pub returns-then-not-has_entry-clause-checked : goal.returns-then-not-has_entry-clause-checked
returns-then-not-has_entry-clause-checked g c =
    IfSome-all (g.T.Tree.files c.args.tree.now) (λ files line is.
    line-skipped files (meaning_of g.M.MakesTag.limit g.M.MakesTag.makes c.args.self.now.entries.now) line
    (option_map (λ n. n.now) c.args.self.now.name) c.args.number _ _ _
    ((rw c.if-not-has_entry.true at c.has_entry.ensures) line is))

pub returns-then-not-takes_next-clause-checked : goal.returns-then-not-takes_next-clause-checked
returns-then-not-takes_next-clause-checked g c =
    let entry = rw c.if-not-has_entry.false at c.has_entry.ensures in
    IfSome-all (g.T.Tree.files c.args.tree.now) (λ files line is.
    line-passed files (meaning_of g.M.MakesTag.limit g.M.MakesTag.makes c.args.self.now.entries.now) line
    (option_map (λ n. n.now) c.args.self.now.name) c.args.number _ _ _ _
    (entry line is, grind (arith, nat_tests)))

pub returns-clause-checked : goal.returns-clause-checked
returns-clause-checked g c =
    let entry = rw c.if-not-has_entry.false at c.has_entry.ensures in
    IfSome_then (g.T.Tree.files c.args.tree.now) c.check.ensures.checked (λ files checked line is.
    line-own files (meaning_of g.M.MakesTag.limit g.M.MakesTag.makes c.args.self.now.entries.now) line
    (option_map (λ n. n.now) c.args.self.now.name) c.args.number _ _ c.check.result _ _ _ _
    (inr (entry line is, grind (arith, nat_tests), grind (arith, nat_tests))) (checked line is))
