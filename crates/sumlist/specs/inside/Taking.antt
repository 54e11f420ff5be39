-- What a reader of pieces takes of the bytes that it has read.
use Rattle.std.specs.Prelude.{◌≡◌, Bool, true, false, List, ℕ, [], ◌∷◌, Option, Some}
use Rattle.sumlist.specs.Lines.{IsKept, pieces}
use Rattle.sumlist.specs.inside.Cut.{HasNo, IsCut}
use Rattle.sumlist.specs.inside.Held.{held_after}

-- how far a reader is: the bytes that it has read and are yet to be taken, what it keeps of the last piece and
-- whether that lies whole in what was read, how many bytes it has read, and whether the feed has ended
pub record Cutting : Type 0 where
  pub ahead : List ℕ
  pub kept : Option (List ℕ)
  pub is_whole : Bool
  pub total : ℕ
  pub is_at_end : Bool

abbrev pub none_taken : Cutting
none_taken = record { ahead = []; kept = Some []; is_whole = false; total = 0; is_at_end = false }

-- the bytes up to the first end were taken, with it, or all where there is none
abbrev pub IsTaken : ℕ → Bool → Cutting → Cutting → Type 0
IsTaken end true old new = (front : List ℕ) × IsCut end old.ahead front new.ahead
    × (new.total ≡ old.total) × (new.kept ≡ held_after old.kept front) × (new.is_at_end ≡ old.is_at_end)
IsTaken end false old new = HasNo end old.ahead × (new.ahead ≡ []) × (new.is_whole ≡ false)
    × (new.total ≡ old.total) × (new.kept ≡ held_after old.kept old.ahead)

-- the first piece of some bytes was taken and these are left, or they had none
abbrev pub IsNextPiece : ℕ → Bool → Option (List ℕ) → List ℕ → List ℕ → Type 0
IsNextPiece end true kept bytes left =
    (piece : List ℕ) × IsKept kept piece × (pieces end bytes ≡ piece ∷ pieces end left)
IsNextPiece end false kept bytes left = (bytes ≡ []) × (left ≡ [])
