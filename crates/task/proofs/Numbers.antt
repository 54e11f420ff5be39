-- The number of a setting is what a parse reads, where it is in range.
use Rattle.std.proofs.lemmas.Grind.{common_steps}
use Rattle.std.proofs.Common.{◌≡◌, ℕ, ◌-◌, ◌^◌, ◌<◌, ◌≤◌, Bool, true, length, nat_lt, nat_le}
use Rattle.std.proofs.Common.{Result, Ok, Err, sym, arith}
use Rattle.std.specs.Prelude.{◌&&◌, if◌then◌else◌}
use Rattle.std.proofs.lemmas.Bool.Decides.{nat_tests}
use Rattle.std.proofs.lemmas.Result.{Ok-from_Ok_iff, OkIff-at_ok}
use Rattle.std.proofs.lemmas.Str.Parse.{IsNumeralModel, numerals_by_value, tells_all_ascii_digits}
use Rattle.std.specs.Str.{all_ascii_digits}
use Rattle.std.specs.Str.Parse.{ParsesUnsigned, digits_value, without_leading_plus}
use Rattle.request.specs.CommandLine.{Text}
use Rattle.task.specs.Settings.{number_in, out_of_range}

model : IsNumeralModel (λ ds. all_ascii_digits ds ≡ true) (digits_value 10)
model = numerals_by_value _ tells_all_ascii_digits

-- the range is all that is left to test
spelled : (a b : Bool) (least most m n : ℕ) (fault : Text) → a ≡ true → b ≡ true → m ≡ n
    → (if nat_le least n && nat_le n most then Ok n else Err fault)
    ≡ (if a && b && (nat_le least m && nat_le m most) then Ok m else Err fault)
spelled a b least most m n fault p q same = grind (arith, common_steps)

outside : (a b c d : Bool) (n : ℕ) (fault : Text) → (a ≡ true → b ≡ true → d ≡ true → ⊥)
    → Err fault ≡ (if a && b && (c && d) then Ok n else Err fault)
outside a b c d n fault never = grind (arith, common_steps)

-- the parse read a number
pub number-parsed : {E : Type 0} (least most : ℕ) (setting t : Text) (n : ℕ) (r : Result ℕ E)
    → ParsesUnsigned 64 10 t r → r ≡ Ok n
    → (if nat_le least n && nat_le n most then Ok n else Err (out_of_range setting)) ≡ number_in least most setting t
number-parsed least most setting t n r parses is =
    let p = OkIff-at_ok r _ _ n parses is in
    let some : nat_lt 0 (length (without_leading_plus t)) ≡ true = let l = p.0.0.0 in grind (arith, nat_tests) in
    spelled _ _ least most _ n (out_of_range setting) some (model.from _ p.0.0.1) (sym p.1)

-- it read none
pub number-refused : {E : Type 0} (least most : ℕ) (setting t : Text) (r : Result ℕ E) (e : E)
    → ParsesUnsigned 64 10 t r → most ≤ 2 ^ 64 - 1 → r ≡ Err e
    → Err (out_of_range setting) ≡ number_in least most setting t
number-refused least most setting t r e parses fits is =
    let digits = without_leading_plus t in
    let n : ℕ = digits_value 10 digits in
    outside (nat_lt 0 (length digits)) (all_ascii_digits digits) (nat_le least n) (nat_le n most) n
    (out_of_range setting) (λ a b d.
    let some : 0 < length digits = let l = a in grind (arith, nat_tests) in
    let high : n ≤ most = let l = d in grind (arith, nat_tests) in
    let small : n < 2 ^ 64 = omega arith in
    let ok : r ≡ Ok n = Ok-from_Ok_iff r _ _ parses ((some, model.to _ b), small) in
    cc)
