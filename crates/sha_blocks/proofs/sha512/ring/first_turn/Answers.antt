use Rattle.sha_blocks.proofs.sha512.ring.first_turn.Goals as goal

pub returns : goal.returns
returns c = λ b h window before.
    let s1 = c.first_four_steps-after.ensures b h window before in
    let s2 = c.first_four_steps-after-2.ensures b h window s1 in
    let s3 = c.first_four_steps-after-3.ensures b h window s2 in
    c.first_four_steps.ensures b h window s3
