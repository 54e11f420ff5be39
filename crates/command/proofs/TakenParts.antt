-- What is left of a feed of which a part was taken, and why a name does not open.
use Rattle.std.proofs.lemmas.Grind.{common_steps}
use Rattle.std.proofs.Common.{◌≡◌, ◌∙◌, ℕ, ◌+◌, ◌*◌, ◌<◌, ◌≤◌, List, length, drop, Bool, true, false, Option, Some}
use Rattle.std.proofs.Common.{None, IfSome, Result, Ok, refl, ap, arith, length-drop, nat_lt, suc, zero}
use Rattle.std.proofs.lemmas.Bool.Decides.{nat_tests}
use Rattle.std.proofs.lemmas.List.{drop-drop, length-take}
use Rattle.std.specs.Prelude.{MatchBool}
use Rattle.b3.specs.declared.row.PartValue.{PartValue}
use Rattle.request.specs.CommandLine.{Text}
use Rattle.source.specs.Pumped.{LeavesBehind, up_to}
use Rattle.command.specs.inside.Cutting.{TakesPart}
use Rattle.command.specs.inside.Places.{GoesOn, after_part, ends_by, first_bytes}
use Rattle.command.specs.inside.Troubles.{MayFail, MayRefuse, Trouble, too_long}
use Rattle.command.specs.declared.fault.Fault.{Fault}
use Rattle.command.proofs.CutParts.{told_front}

-- a name that does not open is not too long
pub unopened : (name : Text) (content : Option (List ℕ)) (t : Trouble) → MayRefuse 0 name content t
    → (t ≡ too_long name → ⊥) → MayFail name (λ _. ⊥) t
unopened name content t h other = grind (arith, common_steps)

by_test : {A B : Type 0} (b : Bool) → (b ≡ true → A) → (b ≡ false → B) → MatchBool b A B
by_test b p q = grind (arith, common_steps)

less : (a b : ℕ) → nat_lt a b ≡ true → a < b
less a b is = grind (arith, nat_tests)

-- what is left of it, if this was found
pub feed_left : (first room : ℕ) (bytes : Option ℕ) (name : Text) (coming content : Option (List ℕ))
    (found : Option PartValue) (after : Option (List ℕ)) → 1 ≤ room → (bytes ≡ Some 0 → first ≡ 0)
    → IfSome (up_to bytes coming) (λ x. let r : Result (Option PartValue) Fault = Ok found in
    TakesPart first room name x r)
    → LeavesBehind bytes coming after → GoesOn false coming (1024 * first) content
    → GoesOn (ends_by found bytes) after (after_part first room bytes) content
feed_left first room bytes name coming content found after any some takes left (m, is, at) =
    (m, is, on found bytes some (rw (at, told_front bytes (drop (1024 * first) m)) at takes) (rw at at left))
  where
    on : (found : Option PartValue) (bytes : Option ℕ) → (bytes ≡ Some 0 → first ≡ 0)
        → (let r : Result (Option PartValue) Fault = Ok found in
        TakesPart first room name (first_bytes bytes (drop (1024 * first) m)) r)
        → LeavesBehind bytes (Some (drop (1024 * first) m)) after
        → MatchBool (ends_by found bytes) ((0 < after_part first room bytes) × (length m ≤ after_part first room
        bytes)) (after ≡ Some (drop (after_part first room bytes) m))
    on (Some part) (Some k) some takes left =
        let at : after_part first room (Some k) ≡ 1024 * first + k = refl in
        let size = length-take k (drop (1024 * first) m) in
        let len = takes.1.1.len in
        by_test (nat_lt part.len k)
        (λ short. let below = less part.len k short in
        (omega (arith, at, below), omega (arith, at, below, size, length-drop (1024 * first) m, len)))
        (λ long. left ∙ ap Some (drop-drop k (1024 * first) m))
    on (Some part) None some takes left =
        let at : after_part first room None ≡ 1024 * first + 1024 * room = refl in
        (omega (arith, at, any), omega (arith, at, length-drop (1024 * first) m, takes.0))
    on None (Some zero) some takes left = absurd (omega (arith, some refl, takes.1.0))
    on None (Some (suc k)) some takes left =
        let at : after_part first room (Some (suc k)) ≡ 1024 * first + suc k = refl in
        let size = length-take (suc k) (drop (1024 * first) m) in
        (omega (arith, at), omega (arith, at, size, length-drop (1024 * first) m, ap length takes.1.1))
    on None None some takes left =
        let at : after_part first room None ≡ 1024 * first + 1024 * room = refl in
        (omega (arith, at, takes.1.0), omega (arith, at, length-drop (1024 * first) m, ap length takes.1.1))
