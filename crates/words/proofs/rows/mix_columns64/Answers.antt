use Rattle.words.specs.Blake2.{blake2b}
use Rattle.words.proofs.FourWords.{g_by_steps}
use Rattle.words.proofs.rows.mix_columns64.Goals as goal

pub returns : goal.returns
returns c j h =
    g_by_steps blake2b _ _ _ _ _ _ (c.sum64.ensures j h) (c.sum64-a1.ensures j h)
    (c.rotated_xor64-d1.ensures j h) (c.sum64-c1.ensures j h) (c.rotated_xor64-b1.ensures j h)
    (c.sum64-2.ensures j h) (c.sum64-a2.ensures j h) (c.rotated_xor64-d2.ensures j h)
    (c.sum64-c2.ensures j h) (c.rotated_xor64-b2.ensures j h)
