-- Of pieces taken one after another, those that are left begin with the next one.
use Rattle.std.proofs.Common.{◌≡◌, ℕ, ◌+◌, ◌<◌, List, ◌++◌, Bor, length, drop, get_or, ap, sym, ◌∙◌, append_assoc}
use Rattle.std.proofs.lemmas.List.{at_drop_more}
use Rattle.source.specs.Pumped.{joined}

pub joined-drop : (all front : List ℕ) (pieces : List (Bor (List ℕ))) (i : ℕ) (d : Bor (List ℕ)) → i < length pieces
    → all ≡ front ++ joined (drop i pieces)
    → all ≡ (front ++ (get_or pieces i d).now) ++ joined (drop (i + 1) pieces)
joined-drop all front pieces i d within whole =
    whole ∙ ap (λ l. front ++ l) (at_drop_more joined pieces i d within)
    ∙ sym (append_assoc front (get_or pieces i d).now (joined (drop (i + 1) pieces)))
