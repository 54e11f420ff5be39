use Rattle.std.proofs.Common.{◌∙◌}
use Rattle.command.specs.Lines.{is_input}
use Rattle.command.proofs.Counting.{list_counted_more}
use Rattle.command.proofs.listed.ListedItems.laws.Goals as goal

pub returns-clause-counted_more : goal.returns-clause-counted_more
returns-clause-counted_more g c = λ f h a b d p q.
    (q.0 ∙ p.0, list_counted_more (is_input a.list.now) f h _ _ _ _ _ _ p.1 (rw p.0 at q.1))
