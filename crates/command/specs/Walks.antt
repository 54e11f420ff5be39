-- A run over items, one after another, and over a share of them.
use Rattle.std.specs.Prelude.{◌⊎◌, ◌≡◌, ℕ, ◌==◌, ◌&&◌, ◌||◌, Bool, false, List, [], ◌∷◌, ◌++◌, MatchBool, Ok, Err}
use Rattle.std.specs.Prelude.{Result, max, nat_lt, not}
use Rattle.hashes.specs.declared.share.Share.{Share}
use Rattle.request.specs.CommandLine.{Text}
use Rattle.sumlist.specs.Shared.{every}
use Rattle.command.specs.Run.{Run, cannot_write, end_of, followed, prints}

-- how items are gone through: the run of an item in a state, and the state after it; the runs if the next item
-- cannot be had; and those after the last item, by the status so far
pub record Walk (State Item : Type 0) : Type 1 where
  pub step : State → Item → Run → State → Type 0
  pub broken : Run → Type 0
  pub ending : State → ℕ → Run → Type 0

-- items that can all be had, after which nothing more is said
abbrev pub steps : {S I : Type 0} → (S → I → Run → S → Type 0) → Walk S I
steps step = record { step = step; broken = λ _. ⊥; ending = λ _ status run. run ≡ prints [] status }

-- whether an ending is a trouble for which an empty line stands if runs go on and there are other shares
abbrev pub has_no_line : Bool → Result ℕ (ℕ × Text) → Bool
has_no_line goes_on (Ok status) = false
has_no_line goes_on (Err t) = goes_on && (t.0 == 1)

-- whether it ends the run over several items: it has status 3, or runs do not go on after a trouble
abbrev pub is_last : Bool → Result ℕ (ℕ × Text) → Bool
is_last goes_on (Ok status) = false
is_last goes_on (Err t) = not goes_on || (t.0 == 3)

-- the run of an item: if there are other shares, an empty line stands for the one that it does not have
abbrev pub InShare : Bool → Bool → Run → Run → Type 0
InShare goes_on shared plain run = MatchBool (shared && has_no_line goes_on plain.ending)
    (let line = record plain { text = plain.text ++ 10 ∷ [] } in
    (run ≡ line) ⊎ (run ≡ record line { is_whole = false; ending = Err cannot_write })) (run ≡ plain)

-- the run over these items, from a state and a status on: the greatest status stands at the end
abbrev pub Walks : {S I : Type 0} → Bool → Walk S I → Bool → S → ℕ → List I → Run → Type 0
Walks goes_on w shared x status [] run = w.ending x status run ⊎ w.broken run
Walks {S} goes_on w shared x status (i ∷ items) run = w.broken run ⊎ ((plain : Run) × (first : Run) × (y : S)
    × w.step x i plain y × InShare goes_on shared plain first × MatchBool (is_last goes_on first.ending) (run ≡ first)
    ((rest : Run) × Walks goes_on w shared y (max status (end_of first.ending).0) items rest
    × (run ≡ followed first rest)))

-- the run over a share of them
abbrev pub WalksShare : {S I : Type 0} → Bool → Walk S I → Share → S → List I → Run → Type 0
WalksShare goes_on w s x items = Walks goes_on w (nat_lt 0 s.others) x 0 (every s.others s.waiting items)
