-- What a result was before its error was turned into another.
use Rattle.sumlist.proofs.Common.{◌≡◌, Err, Ok, Result, refl}
use Rattle.std.specs.Prelude.{MatchResult}

-- a value is the same
pub ok_is : {T E : Type 0} (D : Type 0) (r : Result T E) (y : T)
    → MatchResult r (λ x. ◌≡◌ {A = Result T D} (Ok y) (Ok x)) (λ _. ⊥) → r ≡ Ok y
ok_is D (Ok x) y same = cc
ok_is D (Err e) y none = absurd none

-- an error was one
pub err_is : {T E D : Type 0} (r : Result T E) (d : D) (f : E → D)
    → MatchResult r (λ x. ◌≡◌ {A = Result T D} (Err d) (Ok x)) (λ e. d ≡ f e) → (e : E) × (r ≡ Err e) × (d ≡ f e)
err_is (Ok x) d f same = absurd cc
err_is (Err e) d f how = (e, refl, how)
