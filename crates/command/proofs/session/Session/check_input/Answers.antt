use Rattle.std.specs.Prelude.{option_map}
use Rattle.command.specs.inside.Rules.{meaning}
use Rattle.command.proofs.Listing.{list_left, list_taken}
use Rattle.command.proofs.session.Session.check_input.Goals as goal

pub returns-clause-list : goal.returns-clause-list
returns-clause-list g c reporting before after told =
    rw c.settled.ensures (list_taken reporting _ _ _ (meaning c.args.entries.now)
    (option_map (λ n. n.now) c.args.title) c.args.name c.args.share.now c.check_list-answer.new.share
    c.check_list-answer.result _ _ _ _ _ _ _ _ c.check_list-answer.ensures.checked c.check_list-answer.ensures.writes
    c.check_list-answer.ensures.reads c.check_list-answer.ensures.gave (rw c.settled.ensures at told))

pub returns-clause-gave : goal.returns-clause-gave
returns-clause-gave g c = rw c.settled.ensures (list_left _ _ c.check_list-answer.result c.args.name _
    c.check_list-answer.ensures.gave c.check_list-answer.ensures.end)
