use Rattle.words.proofs.lanes.mixing.mix.Goals as goal

pub returns : goal.returns
returns g c i h = c.end_mix.ensures i h _ _ (c.begin_mix.ensures i h)
