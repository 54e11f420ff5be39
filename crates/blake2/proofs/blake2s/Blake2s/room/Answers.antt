use Rattle.blake2.specs.inside.Hashers.{room_left_2s}
use Rattle.blake2.specs.inside.Rooms.{room_is_2s}
use Rattle.blake2.proofs.blake2s.Blake2s.room.Goals as goal

pub returns-clause-limit : goal.returns-clause-limit
unfolding room_left_2s
returns-clause-limit c = λ m held. rw c.room.ensures (room_is_2s c.args.self.now m held)
