-- A part more behind parts in a row.
use Rattle.std.proofs.lemmas.Grind.{common_steps}
use Rattle.std.proofs.Common.{◌≡◌, ℕ, ◌+◌, ◌*◌, ◌<◌, List, [], ◌∷◌, ◌++◌, refl, sym, ap, ◌∙◌, arith}
use Rattle.std.proofs.Common.{append_assoc, append-nil, length-append}
use Rattle.std.proofs.Math.Nat.{zero-mod}
use Rattle.b3.specs.Modes.{hash_parameters}
use Rattle.b3.specs.Parts.{IsNextInRow}
use Rattle.b3.specs.declared.row.PartValue.{PartValue}
use Rattle.b3.specs.declared.row.Row.{Row}
use Rattle.b3.specs.Values.{IsValueOf}
use Rattle.b3.specs.inside.Rows.{HoldsRow, row_closed, row_count, row_first, row_open, row_parameters}
use Rattle.partlist.specs.Joined.{AreValuesOf, FollowEachOther, IsWhole, bytes_of, last_of}
use Rattle.partlist.specs.inside.Joiner.{IsRowOf}

pub bytes_of-more : (parts : List PartValue) (part : PartValue)
    → bytes_of (parts ++ part ∷ []) ≡ bytes_of parts + part.len
bytes_of-more [] part = omega arith
bytes_of-more (first ∷ parts) part = let more = bytes_of-more parts part in omega (arith, more)

last_of-more : (n : ℕ) (parts : List PartValue) (part : PartValue) → last_of n (parts ++ part ∷ []) ≡ part.len
last_of-more n [] part = refl
last_of-more n (first ∷ parts) part = last_of-more first.len parts part

follow-more : (n last : ℕ) (parts : List PartValue) (part : PartValue) → FollowEachOther n last parts
    → 1024 * part.first_chunk ≡ n + bytes_of parts → IsWhole (last_of last parts)
    → FollowEachOther n last (parts ++ part ∷ [])
follow-more n last [] part follow place whole = (place ∙ omega arith, whole, tt)
follow-more n last (first ∷ parts) part follow place whole = (
  follow.0,
  follow.1,
  follow-more (n + first.len) first.len parts part follow.2 (place ∙ omega arith) whole,
)

-- the bytes of parts and of one more
values-split : (parts : List PartValue) (part : PartValue) (m : List ℕ) → AreValuesOf (parts ++ part ∷ []) m
    → (a : List ℕ) × (x : List ℕ) × (m ≡ a ++ x) × AreValuesOf parts a × IsValueOf hash_parameters part x
values-split [] part m values =
    ([], values.0, values.2 ∙ ap (λ (l : List ℕ). values.0 ++ l) values.4 ∙ append-nil values.0, refl, values.3)
values-split (first ∷ parts) part m values =
    let rest = values-split parts part values.1 values.4 in (
      values.0 ++ rest.0,
      rest.1,
      values.2 ∙ ap (λ (l : List ℕ). values.0 ++ l) rest.2 ∙ sym (append_assoc values.0 rest.0 rest.1),
      (values.0, rest.0, refl, values.3, rest.3),
      rest.4,
    )

-- the row of one part
pub row-first : (row : Row) (part : PartValue) → row_parameters row ≡ hash_parameters
    → row_first row ≡ part.first_chunk → row_count row ≡ part.len → row_closed row ≡ 0
    → row_open row ≡ part.len → ((m : List ℕ) → IsValueOf hash_parameters part m → HoldsRow row m)
    → 1024 * part.first_chunk ≡ 0 → IsRowOf row (part ∷ [])
row-first row part parameters first count closed last holds place = grind (arith, common_steps, values-split)

-- the row with a part more
pub row-more : (old new : Row) (parts : List PartValue) (part : PartValue) → IsRowOf old parts
    → IsNextInRow (row_first old) (row_count old) (row_open old) part.first_chunk part.len
    → ((m x : List ℕ) → HoldsRow old m → IsValueOf (row_parameters old) part x → HoldsRow new (m ++ x))
    → row_count new ≡ row_count old + part.len → 0 < row_closed new → row_open new ≡ part.len
    → row_first new ≡ row_first old → row_parameters new ≡ row_parameters old → IsRowOf new (parts ++ part ∷ [])
row-more old new parts part is next holds count closed last first kept = grind (arith, common_steps, length-append, follow-more, bytes_of-more, last_of-more, values-split)

-- a part that begins where a row from the first chunk on ends comes next, if what stands before it is whole
pub next-is : (first n last : ℕ) (part : PartValue) → first ≡ 0 → 1024 * part.first_chunk ≡ n → IsWhole last
    → IsNextInRow first n last part.first_chunk part.len
next-is first n last part begin place whole = grind (arith, common_steps, zero-mod)
