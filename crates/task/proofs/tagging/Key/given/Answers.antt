use Rattle.std.proofs.Common.{◌≡◌, None, Option, Some, arith, refl}
use Rattle.std.proofs.lemmas.Grind.{common_steps}
use Rattle.std.specs.Prelude.{is_some, option_map}
use Rattle.task.proofs.tagging.Key.given.Goals as goal

is_some-mapped : {A B : Type 0} (f : A → B) (x : Option A) → is_some (option_map f x) ≡ is_some x
is_some-mapped f None = refl
is_some-mapped f (Some x) = refl

pub returns-in_err-unless : goal.returns-in_err-unless
returns-in_err-unless c =
    let given = is_some-mapped (λ v. v.items) c.in_ok-given.given in
    let file = is_some-mapped (λ t. t.now) c.text-file.result in
    grind (arith, common_steps)
