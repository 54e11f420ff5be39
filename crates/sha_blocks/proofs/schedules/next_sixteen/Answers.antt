use Rattle.std.proofs.Common.{arith}
use Rattle.sha2.specs.Sha256.{schedule}
use Rattle.sha_blocks.proofs.Lanes.{below_sixteen}
use Rattle.sha_blocks.proofs.Rounds.{next_word_at, sixteen_on}
use Rattle.sha_blocks.proofs.schedules.next_sixteen.Goals as goal

pub returns : goal.returns
returns c i h b t fits w =
    let next = next_word_at b t in
    let a0 = next 0 (omega arith) _ _ _ _ _ (c.next_word-a0.ensures i h)
    (w 14 (omega arith)) (w 9 (omega arith)) (w 1 (omega arith)) (w 0 (omega arith)) in
    let a1 = next 1 (omega arith) _ _ _ _ _ (c.next_word-a1.ensures i h)
    (w 15 (omega arith)) (w 10 (omega arith)) (w 2 (omega arith)) (w 1 (omega arith)) in
    let a2 = next 2 (omega arith) _ _ _ _ _ (c.next_word-a2.ensures i h)
    a0 (w 11 (omega arith)) (w 3 (omega arith)) (w 2 (omega arith)) in
    let a3 = next 3 (omega arith) _ _ _ _ _ (c.next_word-a3.ensures i h)
    a1 (w 12 (omega arith)) (w 4 (omega arith)) (w 3 (omega arith)) in
    let a4 = next 4 (omega arith) _ _ _ _ _ (c.next_word-a4.ensures i h)
    a2 (w 13 (omega arith)) (w 5 (omega arith)) (w 4 (omega arith)) in
    let a5 = next 5 (omega arith) _ _ _ _ _ (c.next_word-a5.ensures i h)
    a3 (w 14 (omega arith)) (w 6 (omega arith)) (w 5 (omega arith)) in
    let a6 = next 6 (omega arith) _ _ _ _ _ (c.next_word-a6.ensures i h)
    a4 (w 15 (omega arith)) (w 7 (omega arith)) (w 6 (omega arith)) in
    let a7 = next 7 (omega arith) _ _ _ _ _ (c.next_word-a7.ensures i h)
    a5 a0 (w 8 (omega arith)) (w 7 (omega arith)) in
    let a8 = next 8 (omega arith) _ _ _ _ _ (c.next_word-a8.ensures i h)
    a6 a1 (w 9 (omega arith)) (w 8 (omega arith)) in
    let a9 = next 9 (omega arith) _ _ _ _ _ (c.next_word-a9.ensures i h)
    a7 a2 (w 10 (omega arith)) (w 9 (omega arith)) in
    let a10 = next 10 (omega arith) _ _ _ _ _ (c.next_word-a10.ensures i h)
    a8 a3 (w 11 (omega arith)) (w 10 (omega arith)) in
    let a11 = next 11 (omega arith) _ _ _ _ _ (c.next_word-a11.ensures i h)
    a9 a4 (w 12 (omega arith)) (w 11 (omega arith)) in
    let a12 = next 12 (omega arith) _ _ _ _ _ (c.next_word-a12.ensures i h)
    a10 a5 (w 13 (omega arith)) (w 12 (omega arith)) in
    let a13 = next 13 (omega arith) _ _ _ _ _ (c.next_word-a13.ensures i h)
    a11 a6 (w 14 (omega arith)) (w 13 (omega arith)) in
    let a14 = next 14 (omega arith) _ _ _ _ _ (c.next_word-a14.ensures i h)
    a12 a7 (w 15 (omega arith)) (w 14 (omega arith)) in
    let a15 = next 15 (omega arith) _ _ _ _ _ (c.next_word-a15.ensures i h) a13 a8 a0 (w 15 (omega arith)) in
    sixteen_on (schedule b 48) t _ (below_sixteen _
    a0 a1 a2 a3 a4 a5 a6 a7 a8 a9 a10 a11 a12 a13 a14 a15)
