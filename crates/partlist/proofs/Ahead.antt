-- Lines of parts that are read one by one.
use Rattle.std.proofs.lemmas.Grind.{common_steps}
use Rattle.std.proofs.Common.{◌≡◌, ◌∙◌, ℕ, ◌+◌, ◌-◌, ◌<◌, Bool, true, false, List, [], ◌∷◌, ◌++◌, length, drop, Option}
use Rattle.std.proofs.Common.{Some, IfSome, Result, Ok, Err, MatchResult, inr, refl, sym, ap, arith, append_assoc}
use Rattle.std.proofs.Common.{length-append, eqb}
use Rattle.std.proofs.Math.Seq.{drop-append-add}
use Rattle.std.proofs.lemmas.List.{drop-drop}
use Rattle.std.proofs.lemmas.List.Elements.{All-append}
use Rattle.std.proofs.lemmas.Option.{IfSome_then}
use Rattle.std.specs.Prelude.{OnErr}
use Rattle.b3.specs.declared.row.PartValue.{PartValue}
use Rattle.sumlist.specs.Lines.{lines}
use Rattle.sumlist.specs.inside.Cut.{HasNo}
use Rattle.sumlist.proofs.Cutting.{lines-ended, lines-last}
use Rattle.partlist.specs.Joined.{IsWrongBehind, TellsPart}
use Rattle.partlist.specs.declared.fault.JoinFault.{JoinFault}
use Rattle.partlist.specs.declared.fault.JoinFault.TheVariants.{Line}
use Rattle.partlist.specs.declared.fault.PartFault.{PartFault}
use Rattle.partlist.specs.declared.fault.PartFault.TheVariants.{NotAPart}
use Rattle.partlist.specs.declared.joining.Joiner.{Joiner}
use Rattle.partlist.specs.declared.reader.Found.{Found}
use Rattle.partlist.specs.declared.reader.Found.TheVariants as found
use Rattle.partlist.specs.inside.Joiner.{HasJoined, joined_count}
use Rattle.partlist.specs.inside.Reader.{IsAhead, IsBegun, IsFound, JoinsNext, Leaves, TakesLine}
use Rattle.partlist.proofs.Reading.{first_line, line-length}

-- what is ahead behind a line
pub behind_line : (s : ℕ) (xs front rest : List ℕ) → drop s xs ≡ front ++ 10 ∷ rest
    → drop s xs ≡ front ++ 10 ∷ drop (s + length front + 1) xs
behind_line s xs front rest is = rw is (ap (λ (l : List ℕ). front ++ 10 ∷ l)
    (sym (drop-append-add front (10 ∷ rest) 1) ∙ ap (drop (length front + 1)) (sym is)
    ∙ drop-drop (length front + 1) s xs ∙ ap (λ (k : ℕ). drop k xs) (omega arith)))

-- what is yet to be read, with what is held of the line and is ahead
abbrev pub Reads : Option (List ℕ) → List ℕ → Option (List ℕ) → List ℕ → List ℕ → Type 0
Reads known whole coming ahead held = IfSome known (λ bytes. (left : List ℕ) × (coming ≡ Some left)
    × (whole ++ bytes ≡ held ++ (ahead ++ left)))

module _ (known now after : Option (List ℕ)) (whole old new held items : List ℕ) where
  -- more was read
  pub reads_more : (has : Bool) → Reads known whole now old held → IfSome now (IsAhead has old new after)
      → Reads known whole after new held
  reads_more has so more = grind (arith, common_steps)

  -- a line ended in what is ahead
  pub reads_line : (E : Type 0) → (let r : Result Bool E = Ok true in TakesLine held old items new r)
      → HasNo 10 held → Reads known whole now old held
      → IfSome known (λ bytes. (left : List ℕ) × (now ≡ Some left)
      × IsFound found.Line items (whole ++ bytes) (new ++ left))
  reads_line E (front, free, is, split) clean so = IfSome_then known so (λ bytes so.
      let left = so.0 in
      let line : HasNo 10 (held ++ front) = All-append (λ x. eqb x 10 ≡ false) held front clean free in
      let all : whole ++ bytes ≡ (held ++ front) ++ 10 ∷ (new ++ left) = rw (so.2, split) (simp append_assoc) in
      (left, so.1, rw (all, is) (lines-ended (held ++ front) (new ++ left) line)))

  -- all that was ahead was held
  pub reads_on : (E : Type 0) → (let r : Result Bool E = Ok false in TakesLine held old items new r)
      → HasNo 10 held → Reads known whole now old held → Reads known whole now new items × HasNo 10 items
  reads_on E h clean so = grind (arith, common_steps, All-append, append_assoc)

  -- the line is longer than any part's
  pub reads_long : (E : Type 0) (fault : E)
      → (let r : Result Bool E = Err fault in TakesLine held old items new r) → HasNo 10 held
      → Reads known whole now old held → (line : List ℕ)
      → IfSome known (λ bytes. (left : List ℕ) × (now ≡ Some left)
      × IsFound found.Long line (whole ++ bytes) (old ++ left))
  reads_long E fault (front, more, free, split, long) clean so line = IfSome_then known so (λ bytes so.
      let left = so.0 in
      let begin : HasNo 10 (held ++ front) = All-append (λ x. eqb x 10 ≡ false) held front clean free in
      let size = length-append held front in
      let all : whole ++ bytes ≡ (held ++ front) ++ (more ++ left) = rw (so.2, split) (simp append_assoc) in
      let first = first_line (held ++ front) (more ++ left) begin (omega (arith, size, long)) in
      let more_size = length-append (held ++ front) first.0 in
      let longer : 256 < length ((held ++ front) ++ first.0) = omega (arith, size, long, more_size) in
      (left, so.1, (((held ++ front) ++ first.0, first.1, ap lines all ∙ first.2, longer), (held, clean, so.2))))

pub on_err : {T E P : Type 0} (r : Result T E) → P → OnErr r P
on_err r p = grind (arith, common_steps)

-- a read failed, where nothing was ahead
pub reads_failed : (known now after : Option (List ℕ)) (whole old held : List ℕ) → Reads known whole now old held
    → HasNo 10 held → old ≡ [] → after ≡ now
    → IfSome known (λ bytes. (left : List ℕ) × (after ≡ Some left) × IsBegun (whole ++ bytes) left)
reads_failed known now after whole old held so clean none same = grind (arith, common_steps)

-- the line that was held at the end
pub last_line : (line : List ℕ) → 0 < length line → HasNo 10 line → lines line ≡ line ∷ lines []
last_line line some free = lines-last line some free

-- ---- the part of a line

-- the number of the next line is that of the parts before it, and one
next_number : (joiner : Joiner) (parts : List PartValue) (number : ℕ) → HasJoined joiner parts
    → number ≡ joined_count joiner + 1 → number ≡ length parts + 1
next_number joiner parts number joined is = let size = joined.size in omega (arith, size, is)

module _ (known after : Option (List ℕ)) (old new : Joiner) (before behind line : List ℕ) where
  -- what was found of the next line
  abbrev pub Finds : Found → Type 0
  Finds found = IfSome known (λ bytes. (left : List ℕ) × (after ≡ Some left)
      × IsFound found line (before ++ bytes) (behind ++ left))

  -- what is said of it
  abbrev pub Joins : Result (Option PartValue) JoinFault → Type 0
  Joins r = IfSome known (λ bytes. (left : List ℕ) × (after ≡ Some left) × ((parts : List PartValue)
      → HasJoined old parts → JoinsNext (before ++ bytes) parts new (behind ++ left) r))

  pub joins_long : (f : JoinFault) → f ≡ Line (joined_count old + 1) NotAPart → Finds found.Long → Joins (Err f)
  joins_long f is finds = IfSome_then known finds (λ bytes (left, at, ((l, rest, cut, long), begun)). (
    left,
    at,
    λ parts joined. rw is (
      l,
      rest,
      cut,
      next_number old parts _ joined refl,
      λ part tells. let short = line-length l part tells in absurd (omega (arith, short, long)),
    ),
  ))

  -- the part that a line tells was joined, or the line is wrong
  abbrev pub Adds : Result PartValue PartFault → Type 0
  Adds r = (parts : List PartValue) → HasJoined old parts → MatchResult r
      (λ part. TellsPart line part × HasJoined new (parts ++ part ∷ []))
      (λ fault. IsWrongBehind parts line fault)

  pub joins_part : (part : PartValue) → Finds found.Line → Adds (Ok part) → Joins (Ok (Some part))
  joins_part part finds adds = grind (arith)

  pub joins_wrong : (f : JoinFault) (fault : PartFault) → f ≡ Line (joined_count new + 1) fault → new ≡ old
      → Finds found.Line → Adds (Err fault) → Joins (Err f)
  joins_wrong f fault is same finds adds = grind (arith, common_steps, next_number)

  -- what is left behind it
  abbrev pub LeftBy : Result (Option PartValue) JoinFault → Type 0
  LeftBy r = IfSome known (λ bytes. (left : List ℕ) × (after ≡ Some left) × Leaves (before ++ bytes) behind left r)

  pub left_long : (number : ℕ) (fault : PartFault) → Finds found.Long → LeftBy (Err (Line number fault))
  left_long number fault finds = IfSome_then known finds (λ bytes f. (f.0, f.1, inr f.2.1))
