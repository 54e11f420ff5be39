-- An array that calls of a closure made, where no call changes what the closure holds.
use Rattle.std.proofs.lemmas.Grind.{common_steps}
use Rattle.std.proofs.Common.{◌≡◌, ℕ, zero, suc, ◌+◌, ◌<◌, List, arith, subst, sym, slice_index_or}
use Rattle.std.specs.Array.{IsFromFnResult, IsFromFnResultFrom}
use denote.Param.Members.{Mut, Called}

module _ {F B : Type 0} (g : Mut F (ℕ × Unit {0}) B) (P : ℕ → B → Type 0) (f : F)
    (same : (i : ℕ) (y : B) (q : F) → Called g f (i, tt) y q → (q ≡ f) × P i y) where
  from : (ys : List B) (i n : ℕ) → IsFromFnResultFrom g f ys i n → (k : ℕ) (e : B) → k < n
      → P (i + k) (slice_index_or ys (i + k) e)
  from ys i zero made k e below = absurd (omega arith)
  from ys i (suc n) made zero e below =
      let here : i ≡ i + 0 = omega arith in
      subst (λ (m : ℕ). P m (slice_index_or ys m e)) here
      (subst (λ (y : B). P i y) (sym (made.2.1 e)) (same i made.1 made.0 made.3).1)
  from ys i (suc n) made (suc k) e below =
      let there : i + 1 + k ≡ i + suc k = omega arith in
      subst (λ (m : ℕ). P m (slice_index_or ys m e)) there
      (from ys (i + 1) n (subst (λ (q : F). IsFromFnResultFrom g q ys (i + 1) n) (same i made.1 made.0 made.3).0 made.4)
      k e (omega arith))

  -- each element is what the closure answers of its index
  pub made_by : (ys : List B) (n : ℕ) → IsFromFnResult g f ys n → (k : ℕ) (e : B) → k < n → P k (slice_index_or ys k e)
  made_by ys n made k e below = grind (arith, common_steps, slice_index_or, from)
