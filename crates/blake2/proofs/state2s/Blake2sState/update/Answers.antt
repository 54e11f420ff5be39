use Rattle.std.proofs.Common.{◌≡◌, ◌+◌, ◌-◌, ◌^◌, ℕ, List, length, arith}
use Rattle.words.specs.Blake2.{blake2s}
use Rattle.blake2.specs.Blake2.{Parameters, message_limit}
use Rattle.blake2.specs.inside.Lengths.{block_len_2s}
use Rattle.blake2.specs.inside.Rooms.{room_of}
use Rattle.blake2.specs.Begun.{IsBegun2s}
use Rattle.blake2.specs.inside.States.{StateHolds2s}
use Rattle.blake2.specs.declared.state2s.Blake2sState.{Blake2sState}
use Rattle.blake2.proofs.state2s.Blake2sState.update.Goals as goal

-- what the message leaves of the limit
left : (s : Blake2sState) (p : Parameters) (m : List ℕ) → StateHolds2s s p m
    → (2 ^ 64 - 1) - (s.compressed + s.used) + length m ≡ message_limit (2 ^ 64 - 1) 64 p.key
unfolding StateHolds2s IsBegun2s
left s p m held =
    room_of blake2s p s.h s.buffer s.used s.compressed (2 ^ 64 - 1) 64 m block_len_2s
    (omega (arith, held.2)) held.0.3 held.3

pub returns-then-piece-room-clause-fits : goal.returns-then-piece-room-clause-fits
returns-then-piece-room-clause-fits c = λ p m held. grind (arith, left c.args.self.now p m held)

pub returns-clause-fits : goal.returns-clause-fits
returns-clause-fits c = λ p m held. grind (arith, left c.args.self.now p m held)

pub returns-then-piece-room-clause-too_long : goal.returns-then-piece-room-clause-too_long
returns-then-piece-room-clause-too_long c = λ p m held. grind (arith, left c.args.self.now p m held)

pub returns-clause-too_long : goal.returns-clause-too_long
returns-clause-too_long c = λ p m held. grind (arith, left c.args.self.now p m held)

pub returns-then-not-is_begun-clause-too_long : goal.returns-then-not-is_begun-clause-too_long
unfolding StateHolds2s
returns-then-not-is_begun-clause-too_long c = λ p m held. grind (arith, held.0)
