use Rattle.std.proofs.Common.{map}
use Rattle.std.proofs.lemmas.Result.{err_from_is_err_and}
use Rattle.command.specs.inside.Rules.{meaning}
use Rattle.command.proofs.ToldLists.{report_ended, report_goes_on}
use Rattle.command.proofs.told.ByReportItems.end.Goals as goal

pub returns-in_err-end-clause-ended : goal.returns-in_err-end-clause-ended
returns-in_err-end-clause-ended g c =
    let e = err_from_is_err_and c.from_residual.result c.from_residual.ensures.1 in
    rw (e.1, e.2) (report_goes_on c.args.self.now.reporting (meaning c.args.self.now.told.entries.now)
    (map (λ n. n.now) c.args.self.now.lists.names.now) c.args.self.now.told.name.now _ c.args.self.now.told.next
    c.args.status _ _ _ _ _ _ _ c.in_err-end.ensures.ends c.in_err-end.ensures.counted)

pub returns-clause-ended : goal.returns-clause-ended
returns-clause-ended g c =
    report_ended c.args.self.now.reporting (meaning c.args.self.now.told.entries.now)
    (map (λ n. n.now) c.args.self.now.lists.names.now) c.args.self.now.told.name.now _ c.args.self.now.told.next
    c.args.status _ _ _ _ _ _ c.in_ok-end.ensures.ends c.in_ok-end.ensures.counted
