use Rattle.sumlist.proofs.Common.{◌≡◌, ◌≤◌, ◌<◌, ◌-◌, List, arith, false, length, nat_tests, refl, take, true, ℕ}
use Rattle.std.specs.Prelude.{Bool, nat_le}
use Rattle.std.proofs.lemmas.Str.Ascii.{trim_ascii_end_is}
use Rattle.std.specs.Char.{is_ascii_hexdigit, is_ascii_whitespace}
use Rattle.std.specs.List.{list_all, suffix_len}
use Rattle.sumlist.specs.Report.{is_nameless}
use Rattle.sumlist.proofs.look.is_nameless.Goals as goal

named : (line digits : List ℕ) (answer : Bool) → 16 ≤ length digits
    → digits ≡ take (length line - suffix_len is_ascii_whitespace line) line
    → answer ≡ list_all is_ascii_hexdigit digits → answer ≡ is_nameless line
named line digits answer many same is =
    let long : nat_le 16 (length digits) ≡ true = grind (arith, nat_tests) in rw (← same, long) is

few : (line digits : List ℕ) → length digits < 16
    → digits ≡ take (length line - suffix_len is_ascii_whitespace line) line
    → nat_le 16 (length digits) ≡ is_nameless line
few line digits some same =
    let short : nat_le 16 (length digits) ≡ false = grind (arith, nat_tests) in rw (← same, short) refl

pub returns-then-digits-ge16 : goal.returns-then-digits-ge16
returns-then-digits-ge16 c =
    named c.args.line.now c.trim_ascii_end-digits.result.now _ c.if-digits-ge16.true
    (trim_ascii_end_is _ _ c.trim_ascii_end-digits.ensures.value) c.are_digits.ensures

pub returns-else-digits-ge16 : goal.returns-else-digits-ge16
returns-else-digits-ge16 c =
    few c.args.line.now c.trim_ascii_end-digits.result.now c.if-digits-ge16.false
    (trim_ascii_end_is _ _ c.trim_ascii_end-digits.ensures.value)
