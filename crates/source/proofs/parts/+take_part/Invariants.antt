use Rattle.source.proofs.parts.+take_part.Given as goal

abbrev pub decreases-take_part : goal.decreases-take_part
decreases-take_part g l = l.chunks
