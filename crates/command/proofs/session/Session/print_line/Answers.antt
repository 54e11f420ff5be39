use Rattle.std.proofs.Common.{[], ◌≡◌, refl}
use Rattle.std.specs.Prelude.{option_map}
use Rattle.command.specs.Keying.{LineRuns}
use Rattle.command.specs.inside.Rules.{line_by}
use Rattle.command.proofs.Tagging.{line_run, sum_had, sum_refused}
use Rattle.command.proofs.session.Session.print_line.Goals as goal
use Rattle.task.specs.inside.Views.{sum_shown}

pub returns-in_err-rule-clause-run : goal.returns-in_err-rule-clause-run
returns-in_err-rule-clause-run g c =
    sum_refused (sum_shown c.args.sum)
    (λ l. LineRuns (option_map (λ v. v.items) c.args.wanted) l c.args.name.now c.args.file.now) (λ notes. notes ≡ [])
    _ _ c.in_err-rule.field-0.0 _ _ _ _ _ _ _
    c.from_residual.ensures.1 refl refl refl c.in_err-rule.ensures.rule c.in_err-rule.ensures.counted

pub returns-clause-run : goal.returns-clause-run
returns-clause-run g c =
    let l = line_by c.in_ok-rule.rule in
    sum_had (sum_shown c.args.sum)
    (λ l. LineRuns (option_map (λ v. v.items) c.args.wanted) l c.args.name.now c.args.file.now) (λ notes. notes ≡ [])
    _ _ _ _ l _ _ _ _ _ _ _ _ _ _
    refl c.rule_of.ensures.files refl refl c.in_ok-rule.ensures.rule c.in_ok-rule.ensures.counted
    (line_run (option_map (λ v. v.items) c.args.wanted) l c.args.name.now c.args.file.now _ _ _ _ _ _ _ _ _
    (rw c.as_deref.ensures.value at c.print_compared.ensures.answer) c.print_compared.ensures.read.counted)
