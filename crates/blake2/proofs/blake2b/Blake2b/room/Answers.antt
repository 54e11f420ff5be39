use Rattle.blake2.specs.inside.Hashers.{room_left_2b}
use Rattle.blake2.specs.inside.Rooms.{room_is_2b}
use Rattle.blake2.proofs.blake2b.Blake2b.room.Goals as goal

pub returns-clause-limit : goal.returns-clause-limit
unfolding room_left_2b
returns-clause-limit c = λ m held. rw c.room.ensures (room_is_2b c.args.self.now m held)
