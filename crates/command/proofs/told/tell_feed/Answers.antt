use Rattle.command.proofs.ToldLists.{feed_left, feed_told}
use Rattle.command.proofs.told.tell_feed.Goals as goal

pub returns-clause-list : goal.returns-clause-list
returns-clause-list g c reporting before after told =
    rw c.settled.ensures (feed_told reporting _ _ c.args.name c.args.told.now.name _ _ _ _ _ _ before after _ _ _ _
    c.tell_list-answer.result c.tell_list-answer.ensures.told c.tell_list-answer.ensures.reads
    c.tell_list-answer.ensures.report_reads c.tell_list-answer.ensures.gave (rw c.settled.ensures at told))

pub returns-clause-gave : goal.returns-clause-gave
returns-clause-gave g c = rw c.settled.ensures (feed_left _ _ c.tell_list-answer.result c.args.name _ _ _
    c.tell_list-answer.ensures.gave c.tell_list-answer.ensures.end)
