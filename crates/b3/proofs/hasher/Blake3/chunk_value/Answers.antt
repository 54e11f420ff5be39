use Rattle.b3.proofs.hasher.Blake3.chunk_value.Goals as goal

pub returns-in-Some : goal.returns-in-Some
returns-in-Some c = c.args.self.now.made_fits c.in-Some.value c.in-Some.is
