use Rattle.task.proofs.Powers.{multiple_test, power_is, room_at}
use Rattle.task.proofs.parting.has_room.Goals as goal

pub returns-clause-value : goal.returns-clause-value
returns-clause-value c =
    let next = c.next_power_of_two.ensures in
    multiple_test _ _ _
    (power_is _ _ next.power next.lower_bound next.upper_bound c.requires.low c.requires.high)

pub returns-clause-room : goal.returns-clause-room
returns-clause-room c divides =
    let next = c.next_power_of_two.ensures in
    room_at c.args.first c.args.chunks c.requires.low c.requires.high ((multiple_test _ _ _
    (power_is _ _ next.power next.lower_bound next.upper_bound c.requires.low c.requires.high)).0 divides)
