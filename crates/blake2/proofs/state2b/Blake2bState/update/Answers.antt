use Rattle.std.proofs.Common.{◌≡◌, ◌+◌, ◌-◌, ◌^◌, ℕ, List, length, arith}
use Rattle.words.specs.Blake2.{blake2b}
use Rattle.blake2.specs.Blake2.{Parameters, message_limit}
use Rattle.blake2.specs.inside.Lengths.{block_len_2b}
use Rattle.blake2.specs.inside.Rooms.{room_of}
use Rattle.blake2.specs.Begun.{IsBegun2b}
use Rattle.blake2.specs.inside.States.{StateHolds2b, compressed_2b}
use Rattle.blake2.specs.declared.state2b.Blake2bState.{Blake2bState}
use Rattle.blake2.proofs.state2b.Blake2bState.update.Goals as goal

-- what the message leaves of the limit
left : (s : Blake2bState) (p : Parameters) (m : List ℕ) → StateHolds2b s p m
    → (2 ^ 128 - 1) - ((compressed_2b s) + s.used) + length m ≡ message_limit (2 ^ 128 - 1) 128 p.key
unfolding StateHolds2b IsBegun2b
left s p m held =
    room_of blake2b p s.h s.buffer s.used (compressed_2b s) (2 ^ 128 - 1) 128 m block_len_2b
    (omega (arith, held.2)) held.0.3 held.3

pub returns-then-piece-room-clause-fits : goal.returns-then-piece-room-clause-fits
returns-then-piece-room-clause-fits c = λ p m held. grind (arith, left c.args.self.now p m held)

pub returns-clause-fits : goal.returns-clause-fits
returns-clause-fits c = λ p m held. grind (arith, left c.args.self.now p m held)

pub returns-then-piece-room-clause-too_long : goal.returns-then-piece-room-clause-too_long
returns-then-piece-room-clause-too_long c = λ p m held. grind (arith, left c.args.self.now p m held)

pub returns-clause-too_long : goal.returns-clause-too_long
returns-clause-too_long c = λ p m held. grind (arith, left c.args.self.now p m held)

pub returns-then-not-is_begun-clause-too_long : goal.returns-then-not-is_begun-clause-too_long
unfolding StateHolds2b
returns-then-not-is_begun-clause-too_long c = λ p m held. grind (arith, held.0)
