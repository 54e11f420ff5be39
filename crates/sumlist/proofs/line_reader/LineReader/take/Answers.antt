use Rattle.sumlist.proofs.Common.{◌∙◌, ◌≡◌, ◌≤◌, ◌+◌, ◌++◌, ◌∷◌, [], List, Some, ap, arith, drop, length, refl, sym, ℕ}
use Rattle.sumlist.proofs.Common.{length-append, length-take-le, nat_tests, take-append_seam}
use Rattle.std.proofs.Common.{length-drop}
use Rattle.std.proofs.Math.Seq.{drop-append-add}
use Rattle.std.proofs.lemmas.List.{drop-drop}
use Rattle.sumlist.specs.inside.Held.{held_after}
use Rattle.sumlist.proofs.line_reader.LineReader.take.Goals as goal

-- what is ahead behind a line and its end
ahead_cut : (end start : ℕ) (read line rest : List ℕ) → drop start read ≡ line ++ end ∷ rest
    → drop start read ≡ line ++ end ∷ drop (start + (length line + 1)) read
ahead_cut end start read line rest is = rw (← drop-drop, is)
    (ap (λ l. line ++ end ∷ l) (sym (drop-append-add line (end ∷ rest) 1)))

first_held : (line : List ℕ) → length line ≤ 65536 → Some line ≡ held_after (Some []) line
first_held line small = grind (arith, nat_tests)

pub returns-then-not-is_empty : goal.returns-then-not-is_empty
returns-then-not-is_empty c =
    let cut = ahead_cut _ _ _ _ _ (sym c.split_at.ensures.back ∙ c.in-Some.ensures.0) in
    let is_open = ap (λ r. r.is_whole) c.self.view_is ∙ c.requires in
    let kept = c.append-then-not-is_empty.ensures in
    rw (← c.self.view_is) (c.in-Some.line.now, (cut, c.in-Some.ensures.1), refl, rw is_open kept, refl)

pub returns : goal.returns
returns c =
    let line = c.in-Some.line.now in
    let ahead = sym c.split_at.ensures.back ∙ c.in-Some.ensures.0 in
    let is_open = ap (λ r. r.is_whole) c.self.view_is ∙ c.requires in
    let none = c.if-not-is_empty.ensures.0 refl in
    let small : length line ≤ 65536
    = grind (arith, ap length ahead, length-append {A = ℕ}, length-drop {A = ℕ}, length-take-le {A = ℕ}) in
    let held = first_held line small in
    let cut = ahead_cut _ _ _ _ _ ahead in
    rw (← c.self.view_is)
    (line, (cut, c.in-Some.ensures.1), refl, rw (is_open, none, ahead, take-append_seam) held, refl)
