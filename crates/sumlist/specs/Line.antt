-- What a line of a list means (docs/FORMAT.md, Grammar).
use Rattle.std.specs.Prelude.{◌⊎◌, ◌≡◌, ℕ, ◌*◌, ◌-◌, ◌≤◌, List, [], ◌∷◌, ◌++◌, length, take, slice_index}
use Rattle.std.specs.Prelude.{if◌then◌else◌, ◌==◌, Ok, Contains, Option, Some, codes}
use Rattle.hex.specs.Hex.{decode_of}
use Rattle.hashes.specs.declared.alg.Alg.{Alg}
use Rattle.hashes.specs.Digest.{IsInRange, digest_len}
use Rattle.hashes.specs.declared.kind.Kind.{Kind}
use Rattle.hashes.specs.Kinds.{alg_kind}
use Rattle.sumlist.specs.Entry.{Listing, IsEntry}
use Rattle.sumlist.specs.Escape.{SpellsName}
use Rattle.sumlist.specs.Lines.{line_limit}
use Rattle.sumlist.specs.Tagged.{IsLabel}

-- bytes that can be a line: no LF among them, and no more than the limit
abbrev pub IsLine : List ℕ → Type 0
IsLine line = (Contains line 10 → ⊥) × (length line ≤ line_limit)

-- a line without the one CR at its end, if it has one
abbrev pub core : List ℕ → List ℕ
core line = if slice_index line (length line - 1) == 13 then take (length line - 1) line else line

-- a line that states nothing: it is empty or a comment, which begins with `#`
abbrev pub IsSkipped : List ℕ → Type 0
IsSkipped line = IsLine line × ((core line ≡ []) ⊎ (slice_index (core line) 0 ≡ 35))

-- digits, in either case, of a tag of the algorithm
abbrev pub SpellsTag : Alg → List ℕ → List ℕ → Type 0
SpellsTag alg tag digits = IsInRange alg × (length digits ≡ 2 * digest_len alg) × (decode_of digits ≡ Ok tag)

-- digits, a space, a space or `*`, and a body; the kind and the number of digits determine the algorithm, and without a
-- kind there are no such texts. Or a label, which names the algorithm, a body in brackets, and digits
abbrev pub HasForm : List ℕ → Option Kind → Alg → List ℕ → List ℕ → Type 0
HasForm text kind alg tag body = (digits : List ℕ) × SpellsTag alg tag digits
    × (((kind ≡ Some (alg_kind alg)) × (mark : ℕ) × ((mark ≡ 32) ⊎ (mark ≡ 42)) × (text ≡ digits ++ 32 ∷ mark ∷ body))
    ⊎ ((label : List ℕ) × IsLabel label alg × (text ≡ label ++ (codes " (" ++ (body ++ (codes ") = " ++ digits))))))

-- a core whose body is the name itself, or which begins with a backslash and whose body spells the name
abbrev pub Says : List ℕ → Option Kind → Listing → Type 0
Says core kind e =
    HasForm core kind e.alg e.tag e.name
    ⊎ ((text : List ℕ) × (body : List ℕ)
    × (core ≡ 92 ∷ text) × HasForm text kind e.alg e.tag body × SpellsName body e.name)

-- a line spells an entry
pub record Spells (line : List ℕ) (kind : Option Kind) (e : Listing) : Type 0 where
  pub is_line : IsLine line
  pub not_skipped : IsSkipped line → ⊥
  pub is_entry : IsEntry e
  pub form : Says (core line) kind e

-- a line that is not skipped, and spells no entry
abbrev pub IsMalformed : List ℕ → Option Kind → Type 0
IsMalformed line kind = (IsSkipped line → ⊥) × ((e : Listing) → Spells line kind e → ⊥)

-- a line that is malformed only because its kind is missing: with another kind it would spell an entry
abbrev pub IsUntagged : List ℕ → Option Kind → Type 0
IsUntagged line kind = IsMalformed line kind × (other : Kind) × (e : Listing) × Spells line (Some other) e
