use Rattle.std.proofs.Common.{sym, ap, ◌∙◌}
use Rattle.words.specs.Blake2.{blake2b}
use Rattle.blake2.specs.Blake2.{Parameters, blake2}
use Rattle.blake2.specs.inside.Hashers.{Holds2b, parameters_2b}
use Rattle.blake2.specs.inside.Listed.{read_back}
use Rattle.blake2.proofs.blake2b.Blake2b.finish.Goals as goal

pub returns-clause-digest : goal.returns-clause-digest
unfolding Holds2b parameters_2b
returns-clause-digest c = λ m held.
    let h = c.args.self.hasher in
    c.finish.ensures.digest m held
    ∙ ap (λ (q : Parameters). blake2 blake2b q m) (sym (read_back blake2b _ h.salt_whole h.personal_whole))
