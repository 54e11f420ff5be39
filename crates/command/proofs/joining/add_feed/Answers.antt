use Rattle.command.proofs.Behind.{not_joined}
use Rattle.command.proofs.joining.add_feed.Goals as goal

pub returns-in-Err-clause-joined : goal.returns-in-Err-clause-joined
returns-in-Err-clause-joined g c = rw c.of_join.ensures (not_joined c.args.list (g.F.Feed.remaining c.args.feed.now)
    c.args.joiner.now c.add_lines.new.self c.in-Err.fault c.in-Err.ensures.joined)
