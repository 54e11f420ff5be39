use Rattle.std.proofs.Common.{arith, refl, true}
use Rattle.command.specs.inside.Rules.{line_by}
use Rattle.command.proofs.Counting.{list_counted}
use Rattle.command.proofs.Naming.{breaks_many, breaks_read, onward_fewer, onward_read, some_names, well}
use Rattle.command.proofs.listed.ListedItems.next.Goals as goal

pub returns-in-Err-clause-broken : goal.returns-in-Err-clause-broken
returns-in-Err-clause-broken g c = λ start same. rw c.of_source.ensures (breaks_read c.args.self.now.list
    start.list same.4 start.number c.args.self.now.number start.names.now c.args.self.now.names.now _ _ _ _
    (line_by start.rule.now)
    (g.T.Tree.files start.tree.now) same.6 _ c.in-Err.fault _ _ c.in-Err.ensures.count
    (λ none long. c.in-Err.ensures.too_long none (rw long refl)) (λ k read. (refl, list_counted _ k _ _ _ _ read refl)))

pub returns-in_default-clause-broken : goal.returns-in_default-clause-broken
returns-in_default-clause-broken g c = λ start same. breaks_many c.args.self.now.list start.list same.4 start.number
    c.args.self.now.number start.names.now c.args.self.now.names.now _ _ _ _ (line_by start.rule.now)
    (g.T.Tree.files start.tree.now) same.6 _ (let most = c.in_default.ensures in omega (arith, most))
    (some_names c.args.self.now.names.now c.next.new.self _ _
    (rw c.in-Ok-true.field-0-test at c.in-Ok-true.ensures.name)) (
      refl,
      list_counted _ 0 _ _ _ _ (let same = c.in-Ok-true.ensures.count
          (well c.args.self.now.names.now.fault _ c.in-Ok-true.ensures.again (λ f h. let no = h.0 in cc)) in
          omega (arith, same)) refl,
    )

pub returns-in_default-clause-same : goal.returns-in_default-clause-same
returns-in_default-clause-same g c = (
  refl,
  refl,
  refl,
  refl,
  refl,
  refl,
  onward_fewer (omega arith)
      (onward_read c.args.self.now.number c.args.self.now.names.now c.next.new.self _ _ true
      (rw c.in-Ok-true.field-0-test at c.in-Ok-true.ensures.name)
      (well c.args.self.now.names.now.fault _ c.in-Ok-true.ensures.again (λ f h. let no = h.0 in cc))),
)

pub returns-clause-same : goal.returns-clause-same
returns-clause-same g c = let next = c.in-Some.ensures in (
  refl,
  refl,
  refl,
  refl,
  refl,
  refl,
  onward_fewer (omega (arith, next.1))
      (onward_read c.args.self.now.number c.args.self.now.names.now c.next.new.self _ _ true
      (rw c.in-Ok-true.field-0-test at c.in-Ok-true.ensures.name)
      (well c.args.self.now.names.now.fault _ c.in-Ok-true.ensures.again (λ f h. let no = h.0 in cc))),
)
