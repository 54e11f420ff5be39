use Rattle.std.proofs.Common.{◌++◌, ◌∙◌, ℕ, List, arith, subst}
use Rattle.std.proofs.lemmas.Bool.Decides.{nat_tests}
use Rattle.b3.specs.inside.Rooms.{hasher_room-holds}
use Rattle.b3.specs.inside.States.{StateHolds}
use Rattle.hash_c.proofs.blake3_stream.sums_blake3_update.Goals as goal

-- the hasher took the piece under the state's parameters
pub returns-in-Ok-clause-appended : goal.returns-in-Ok-clause-appended
returns-in-Ok-clause-appended c = λ p m held _.
    let under = c.update.ensures.kept ∙ c.in-Some.ensures.parameters p m held in
    let taken = c.in-Ok.ensures.appended m (c.in-Some.ensures.holds p m held) in
    subst (λ (q : List ℕ). StateHolds c.save.new.self q (m ++ c.args.piece.now)) under (c.save.ensures _ taken)

-- the room is what the message leaves of the limit
pub returns-in-Ok-clause-status : goal.returns-in-Ok-clause-status
returns-in-Ok-clause-status c = λ p m held.
    let holds = c.in-Some.ensures.holds p m held in
    grind (arith, nat_tests, hasher_room-holds c.in-Some.hasher m holds, c.in-Ok.ensures.room)
