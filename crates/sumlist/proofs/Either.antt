-- Facts that can be told: each holds, or does not.
use Rattle.sumlist.proofs.Common.{◌⊎◌, Bool, Decides}
use Rattle.sumlist.proofs.Common.{false, false≢true, inl, inr, refl, true}

abbrev pub Either : Type 0 → Type 0
Either P = P ⊎ (P → ⊥)

pub either_by : {P : Type 0} (b : Bool) → Decides b P → Either P
either_by true d = inl (d.0 refl)
either_by false d = inr (λ p. false≢true (d.1 p))
