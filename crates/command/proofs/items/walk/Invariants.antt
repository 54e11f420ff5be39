use Rattle.std.proofs.Common.{◌≡◌}
use Rattle.command.proofs.Keeping.{Kept}
use Rattle.command.proofs.Walking.{Walked}
use Rattle.command.proofs.items.walk.Given as goal

abbrev pub invariant-items : goal.invariant-items
invariant-items g l = record {
  others : l.left.others ≡ l.share.others;
  walked : Walked g.I.Items.GOES_ON (g.I.Items.walk l.fn.items) g.I.Items.counted l.share (g.I.Items.state l.fn.items)
      (g.I.Items.items l.fn.items) (g.I.Items.state l.items) (g.I.Items.items l.items) l.left.waiting l.status
      l.fn.items l.items (g.I.Items.out l.fn.items) (g.I.Items.out l.items) (g.E.Sink.shown l.fn.err)
      (g.E.Sink.shown l.err);
  same : g.I.Items.same l.fn.items l.items;
  kept : Kept g.I.Items.keeps l.share (g.I.Items.items l.fn.items) (g.I.Items.items l.items) l.left.waiting l.fn.items
      l.items;
}

abbrev pub decreases-items : goal.decreases-items
decreases-items g l = g.I.Items.most l.items
