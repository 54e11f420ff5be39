use Rattle.sumlist.proofs.Common.{inl, inr}
use Rattle.sumlist.proofs.LineCases.{line_cases, spells_one}
use Rattle.sumlist.proofs.laws.line_laws.Goals as goal

pub returns-clause-some : goal.returns-clause-some
returns-clause-some c = λ line kind. elim (line_cases line kind) [
  | inl skipped ↦ inl skipped
  | inr (inl s) ↦ inr (inl (s.0, s.1, λ d t. spells_one line kind d s.0 t s.1))
  | inr (inr malformed) ↦ inr (inr malformed)
]

pub returns-clause-no_other : goal.returns-clause-no_other
returns-clause-no_other c =
    λ line kind. (λ s m. m.0 s, λ e s. (λ k. s.not_skipped k, λ m. m.1 e s))
