-- Each line has one meaning (docs/FORMAT.md, Grammar).
use Rattle.std.specs.Prelude.{◌⊎◌, ◌≡◌, ℕ, List, Option}
use Rattle.hashes.specs.declared.kind.Kind.{Kind}
use Rattle.sumlist.specs.Entry.{Listing}
use Rattle.sumlist.specs.Line.{IsMalformed, IsSkipped, Spells}

-- a line is skipped, spells one entry and no other, or is malformed
abbrev pub OneMeaning : Type 0
OneMeaning = (line : List ℕ) (kind : Option Kind) → IsSkipped line
    ⊎ (((e : Listing) × Spells line kind e × ((d : Listing) → Spells line kind d → d ≡ e)) ⊎ IsMalformed line kind)

-- no line is two of these
abbrev pub NoOtherMeaning : Type 0
NoOtherMeaning = (line : List ℕ) (kind : Option Kind) → (IsSkipped line → IsMalformed line kind → ⊥)
    × ((e : Listing) → Spells line kind e → (IsSkipped line → ⊥) × (IsMalformed line kind → ⊥))
