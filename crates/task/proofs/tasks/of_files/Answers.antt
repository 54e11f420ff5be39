use Rattle.std.proofs.Common.{◌≡◌, ◌∙◌, ℕ, List, Option, Some, None, Ok, Err, ap, refl, sym}
use Rattle.std.specs.Prelude.{is_some, option_map}
use Rattle.std.proofs.lemmas.Result.{err_from_is_err_and}
use Rattle.request.specs.CommandLine.{Given, Text, given_of}
use Rattle.task.specs.Hashing.{wanted}
use Rattle.task.specs.Tasks.{Source, Sum, names_of, of_files, share_of}
use Rattle.task.specs.inside.Seen.{fault_text}
use Rattle.task.specs.inside.Steps.{allows_share, input_name}
use Rattle.task.specs.inside.Views.{names_shown, sum_shown}
use Rattle.task.proofs.tasks.of_files.Goals as goal

is_some-mapped : {A B : Type 0} (f : A → B) (x : Option A) → is_some (option_map f x) ≡ is_some x
is_some-mapped f None = refl
is_some-mapped f (Some x) = refl

-- there is no such share
no_share : (sum : Sum) (n : ℕ) (g : Given) (names : Source (List Text)) (name : Option Text) (bytes : Option (List ℕ))
    (fault : Text) → names_of g ≡ Ok names → input_name g ≡ Ok name → wanted n g ≡ Ok bytes
    → share_of (allows_share (is_some bytes) g) g ≡ Err fault → of_files sum n g ≡ Err fault
no_share sum n g names name bytes fault a b c d = rw (a, b, c, d) refl

pub returns-in_err-share : goal.returns-in_err-share
returns-in_err-share c =
    let g = given_of c.args.request.now in
    let residual = c.from_residual-in_err-share in
    let e = err_from_is_err_and residual.result residual.ensures.1 in
    let given = option_map (λ v. v.items) c.in_ok-wanted.wanted in
    let is = is_some-mapped (λ v. v.items) c.in_ok-wanted.wanted in
    rw (e.1, e.2) (no_share (sum_shown c.args.sum) c.args.length g (names_shown c.in_ok-names.names)
    (option_map (λ n. n.now) c.in_ok-name.name) given (fault_text c.in_err-share.field-0.0)
    c.in_ok-names.ensures (sym c.in_ok-name.ensures) c.in_ok-wanted.ensures
    (ap (λ b. share_of (allows_share b g) g) (is ∙ sym c.is_some.ensures) ∙ sym c.in_err-share.ensures))
