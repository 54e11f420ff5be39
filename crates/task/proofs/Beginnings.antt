-- A text with a name and a colon before the rest.
use Rattle.std.proofs.lemmas.Grind.{common_steps}
use Rattle.std.proofs.Common.{◌≡◌, ◌≢◌, Bool, true, [], ◌∷◌, ◌++◌, Option, None, MatchOption, ◌∙◌}
use Rattle.std.proofs.Common.{codes, length, sym, unwrap_or, arith}
use Rattle.std.specs.Borrow.{Bor}
use Rattle.std.specs.Prelude.{◌==◌, drop, if◌then◌else◌}
use Rattle.std.proofs.Math.Seq.{drop-append_seam}
use Rattle.std.proofs.lemmas.Bool.Decides.{Decides-eqb}
use Rattle.std.proofs.lemmas.List.{append_assoc, append_cancel_left}
use Rattle.std.proofs.lemmas.Slice.Eq.{starts_is}
use Rattle.std.specs.List.{starts_with}
use Rattle.request.specs.CommandLine.{Given, Text, text_of}
use Rattle.task.specs.Hashing.{digits_of}

-- what stands behind a name and a colon, if a text begins so
abbrev pub IsAfter : Text → Text → Option (Bor Text) → Type 0
IsAfter t name r = MatchOption r ((rest : Text) → t ≢ name ++ 58 ∷ rest) (λ rest. t ≡ name ++ 58 ∷ rest.now)

-- it does not begin with the name
pub lacks_name : (t n m : Text) (r : Option (Bor Text)) → m ≡ n → ((rest : Text) → t ≢ m ++ rest) → r ≡ None
    → IsAfter t n r
lacks_name t n m r same lacks is = rw (is, ← same) (λ rest. lacks (58 ∷ rest))

-- it does, and the rest begins with the colon or not
pub has_name : (t n m f : Text) (r : Option (Bor Text)) → m ≡ n → t ≡ m ++ f
    → MatchOption r ((rest : Text) → f ≢ (58 ∷ []) ++ rest) (λ x. f ≡ (58 ∷ []) ++ x.now) → IsAfter t n r
has_name t n m f r same is lacks = grind (arith, common_steps, append_cancel_left)

-- a text without this beginning, where it has it
abbrev without : Text → Text → Text
without t start = if starts_with ◌==◌ t start then drop (length start) t else t

begun : (start rest : Text) → without (start ++ rest) start ≡ rest
begun start rest = grind (arith, common_steps, starts_is, Decides-eqb, drop-append_seam)

unbegun : (b : Bool) (t start : Text) → (b ≡ true → t ≡ start ++ drop (length start) t)
    → ((rest : Text) → t ≢ start ++ rest) → (if b then drop (length start) t else t) ≡ t
unbegun b t start has lacks = grind (arith, common_steps)

-- the digits in the text of `--verify`
pub digits_behind : (g : Given) (t b n d : Text) → b ≡ t → n ≡ unwrap_or (text_of (codes "-a") g) []
    → b ≡ n ++ 58 ∷ d → d ≡ digits_of g t
digits_behind g t b n d same is p =
    rw (← is, sym same ∙ p ∙ sym (append_assoc n (58 ∷ []) d)) (sym (begun (n ++ 58 ∷ []) d))

pub digits_alone : (g : Given) (t b n : Text) → b ≡ t → n ≡ unwrap_or (text_of (codes "-a") g) []
    → ((rest : Text) → b ≢ n ++ 58 ∷ rest) → b ≡ digits_of g t
digits_alone g t b n same is lacks = grind (arith, unbegun, starts_is, Decides-eqb, append_assoc)
