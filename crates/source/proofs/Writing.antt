-- How far a text has been written: a sink took a beginning of it, and the rest is left. Where each piece of a text is
-- written the text is, and where one fails a beginning of the text stands.
use Rattle.std.proofs.lemmas.Grind.{common_steps}
use Rattle.std.proofs.Common.{◌≡◌, ◌+◌, ◌<◌, ℕ, List, [], ◌++◌, take, drop, get_or, length, refl, sym, ap, ◌∙◌}
use Rattle.std.proofs.Common.{append_assoc, append-nil, add-one, drop-cons, take-append-drop, Option, Result, Ok, Err}
use Rattle.std.proofs.Common.{IsErr, arith}
use Rattle.std.proofs.KnownBytes.{Appends-nil, Appends-trans}
use Rattle.std.proofs.lemmas.Result.{MatchResult-from_err}
use Rattle.std.specs.Io.KnownBytes.{Appends}
use Rattle.std.specs.List.{flat_map}
use Rattle.source.specs.Counts.{next_count}
use Rattle.source.specs.Written.{AppendsPrefix, Begins, Done, Failed, Shown, Writes}

-- ---- two pieces

Begins-more : (front x y : List ℕ) → Begins front x → Begins front (x ++ y)
Begins-more front x y b = (b.0 ++ y, ap (λ l. l ++ y) b.1 ∙ append_assoc front b.0 y)

Begins-after : (x front y : List ℕ) → Begins front y → Begins (x ++ front) (x ++ y)
Begins-after x front y b = (b.0, ap (λ l. x ++ l) b.1 ∙ sym (append_assoc x front b.0))

-- nothing was written
pub AppendsPrefix-none : (a : Option (List ℕ)) (x : List ℕ) → AppendsPrefix a a x
AppendsPrefix-none a x = ([], Appends-nil a, (x, refl))

-- the first piece was begun
pub AppendsPrefix-more : (a b : Option (List ℕ)) (x y : List ℕ) → AppendsPrefix a b x → AppendsPrefix a b (x ++ y)
AppendsPrefix-more a b x y p = (p.0, p.1, Begins-more p.0 x y p.2)

-- the first piece was written, and the second begun
pub AppendsPrefix-after : (a b c : Option (List ℕ)) (x y : List ℕ)
    → Appends a b x → AppendsPrefix b c y → AppendsPrefix a c (x ++ y)
AppendsPrefix-after a b c x y p q = (x ++ q.0, Appends-trans a b c x q.0 p q.1, Begins-after x q.0 y q.2)

-- the first piece failed
pub Failed-more : (a b : Shown) (x y : List ℕ) → Failed a b x → Failed a b (x ++ y)
Failed-more a b x y p = (p.0, AppendsPrefix-more a.contents b.contents x y p.1)

-- the first piece was written, and the second failed
pub Failed-after : (a b c : Shown) (x y : List ℕ) → Done a b x → Failed b c y → Failed a c (x ++ y)
Failed-after a b c x y p q =
    (q.0 ∙ ap next_count p.0, AppendsPrefix-after a.contents b.contents c.contents x y p.1 q.1)

-- both were written
pub Done-after : (a b c : Shown) (x y : List ℕ) → Done a b x → Done b c y → Done a c (x ++ y)
Done-after a b c x y p q = (q.0 ∙ p.0, Appends-trans a.contents b.contents c.contents x y p.1 q.1)

-- the first piece was written, and the second ended as it did
pub Writes-after : {T E : Type 0} (r : Result T E) (a b c : Shown) (x y : List ℕ) → Done a b x → Writes r b c y
    → Writes r a c (x ++ y)
Writes-after (Ok v) a b c x y p q = Done-after a b c x y p q
Writes-after (Err e) a b c x y p q = Failed-after a b c x y p q

-- the exit at a piece that failed
pub Writes-exit : {T E : Type 0} (r : Result T E) (a b : Shown) (text : List ℕ) → IsErr r → Failed a b text
    → Writes r a b text
Writes-exit r a b text e f = MatchResult-from_err r _ _ e (λ _. f)

-- ---- a text, of which some is left

-- a sink took the part of `text` before `rest`, and no write failed
pub record Writing (old new : Shown) (text rest : List ℕ) : Type 0 where
  pub front : List ℕ
  pub whole : text ≡ front ++ rest
  pub done : Done old new front

-- a piece of what was left was written
pub Writing-step : (a b c : Shown) (text rest piece left : List ℕ)
    → rest ≡ piece ++ left → Writing a b text rest → Done b c piece → Writing a c text left
Writing-step a b c text rest piece left e w p = grind (arith, common_steps, append_assoc, Appends-trans)

-- the same, where the piece is the first n bytes
pub Writing-more : (a b c : Shown) (text rest : List ℕ) (n : ℕ)
    → Writing a b text rest → Done b c (take n rest) → Writing a c text (drop n rest)
Writing-more a b c text rest n w p =
    Writing-step a b c text rest (take n rest) (drop n rest) (sym (take-append-drop n rest)) w p

pub Writing-end : (old new : Shown) (text : List ℕ) → Writing old new text [] → Done old new text
Writing-end old new text w = rw (w.whole ∙ append-nil w.front) w.done

-- a piece of what is left failed
pub Writing-failed : (a b c : Shown) (text rest piece left : List ℕ)
    → rest ≡ piece ++ left → Writing a b text rest → Failed b c piece → Failed a c text
Writing-failed a b c text rest piece left e w p = grind (arith, common_steps, Failed-after, Failed-more)

-- the pieces from one on
pub flat_map-drop : {A : Type 0} (f : A → List ℕ) (xs : List A) (i : ℕ) (x : A) → i < length xs
    → flat_map f (drop i xs) ≡ f (get_or xs i x) ++ flat_map f (drop (i + 1) xs)
flat_map-drop f xs i x h = rw add-one (ap (flat_map f) (drop-cons xs i x h))
