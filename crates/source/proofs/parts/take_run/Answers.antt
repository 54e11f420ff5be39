use Rattle.std.proofs.Common.{◌≡◌, ℕ, List, length, take, arith, length-take-le}
use Rattle.std.proofs.lemmas.Bool.{false≢true}
use Rattle.source.specs.inside.Front.{front_remaining}
use Rattle.source.proofs.Parting.{ahead_longer, over_limit}
use Rattle.source.proofs.parts.take_run.Goals as goal

pub returns-in-Err-clause-too_long : goal.returns-in-Err-clause-too_long
returns-in-Err-clause-too_long g c = λ is.
    let read : List ℕ = take c.args.ahead c.args.run.now in
    let size : length read ≡ c.args.ahead = length-take-le c.args.ahead c.args.run.now c.requires.bound in
    let run = c.requires.run in
    let some = c.requires.some in
    ahead_longer (front_remaining g.F.Feed.remaining c.args.feed.now) read _
    (over_limit run.0 c.args.first (length read) run.2 (λ none. some (omega (arith, none, size)))
    (omega (arith, size, c.requires.bound, run.1)) (λ placed. false≢true (c.in-Err.ensures.placed.1 placed)))
