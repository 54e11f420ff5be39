-- Lines of parts that come byte after byte.
use Rattle.std.proofs.lemmas.Grind.{common_steps}
use Rattle.std.proofs.Common.{◌≡◌, ◌≢◌, ℕ, ◌+◌, ◌-◌, ◌<◌, ◌≤◌, List, [], ◌∷◌, ◌++◌, length, refl, sym, ap, ◌∙◌, subst}
use Rattle.std.proofs.Common.{arith, inl, inr, append_assoc, append-nil, length-append, codes, Option, None, Some}
use Rattle.std.proofs.Common.{Result, Ok, Err, IfSome}
use Rattle.std.proofs.lemmas.Bool.{cases_eq}
use Rattle.std.proofs.lemmas.Bool.Decides.{nat_tests}
use Rattle.std.proofs.lemmas.Fmt.{length-decimal-le}
use Rattle.std.proofs.lemmas.List.Elements.{All-push}
use Rattle.std.proofs.lemmas.Option.{IfSome_then}
use Rattle.std.proofs.KnownBytes.{Consumes-trans}
use Rattle.std.specs.Fmt.{decimal}
use Rattle.std.specs.Io.KnownBytes.{Consumes}
use Rattle.hex.specs.Hex.{encode_lower, lower_digits}
use Rattle.hex.proofs.HexLemmas.{length-encode_with}
use Rattle.b3.specs.declared.row.PartValue.{PartValue}
use Rattle.b3.specs.declared.row.Row.{Row}
use Rattle.source.specs.Pumped.{Gives}
use Rattle.sumlist.specs.Lines.{lines}
use Rattle.sumlist.specs.inside.Cut.{HasNo}
use Rattle.sumlist.proofs.Cutting.{lines-ended, lines-last}
use Rattle.partlist.specs.Joined.{AllTell, AreInRow, StopsAt, TellsPart}
use Rattle.partlist.specs.declared.fault.PartFault.{PartFault}
use Rattle.partlist.specs.declared.fault.JoinFault.{JoinFault}
use Rattle.partlist.specs.declared.fault.JoinFault.TheVariants.{Line, Read}
use Rattle.partlist.specs.declared.joining.Joiner.{Joiner}
use Rattle.partlist.specs.inside.Joiner.{HasJoined, LeavesJoined, MayBeRowOf, Partway, joined_count}
use Rattle.partlist.specs.inside.Reader.{JoinsNext, Leaves}
use Rattle.partlist.proofs.Parsing.{first_fits, len_fits}

-- ---- lines

HasNo-more : (xs : List ℕ) (c : ℕ) → HasNo 10 xs → c ≢ 10 → HasNo 10 (xs ++ c ∷ [])
HasNo-more xs c free other = grind (arith, common_steps, All-push, nat_tests)

-- the first line begins with bytes that stand at the beginning and have no LF among them
pub first_line : (front more : List ℕ) → HasNo 10 front → 0 < length front
    → (rest : List ℕ) × (after : List (List ℕ)) × (lines (front ++ more) ≡ (front ++ rest) ∷ after)
first_line front [] free some =
    let one = append-nil front in
    ([], lines [], ap lines one ∙ lines-last front some free ∙ ap (λ l. l ∷ lines []) (sym one))
first_line front (c ∷ more) free some = elim (cases_eq c 10) [
  | inl end ↦
      ([], lines more, rw end (lines-ended front more free) ∙ ap (λ l. l ∷ lines more) (sym (append-nil front)))
  | inr other ↦
      let size = length-append front (c ∷ []) in
      let later = first_line (front ++ c ∷ []) more (HasNo-more front c free other) (omega (arith, size)) in (
        c ∷ later.0,
        later.1,
        ap lines (sym (append_assoc front (c ∷ []) more)) ∙ later.2
            ∙ ap (λ l. l ∷ later.1) (append_assoc front (c ∷ []) later.0),
      )
]

-- a part's line is not long
pub line-length : (line : List ℕ) (part : PartValue) → TellsPart line part → length line ≤ 256
line-length line part (value, tells, words) =
    let first : List ℕ = decimal part.first_chunk in
    let len : List ℕ = decimal part.len in
    let digits : List ℕ = encode_lower value in
    let a = length-append (codes "sums-part-1 blake3 ") (first ++ 32 ∷ (len ++ 32 ∷ digits)) in
    let b = length-append first (32 ∷ (len ++ 32 ∷ digits)) in
    let c = length-append len (32 ∷ digits) in
    let d = length-decimal-le 20 part.first_chunk (omega arith) (omega arith) (first_fits line _ _ value tells) in
    let e = length-decimal-le 20 part.len (omega arith) (omega arith) (len_fits line _ _ value tells) in
    let f = length-encode_with lower_digits value in
    omega (arith, ap length tells.text, a, b, c, d, e, f, tells.sized)

AllTell-length : (ls : List (List ℕ)) (parts : List PartValue) → AllTell ls parts → length ls ≡ length parts
AllTell-length [] [] tell = refl
AllTell-length [] (part ∷ parts) tell = absurd tell
AllTell-length (line ∷ ls) [] tell = absurd tell
AllTell-length (line ∷ ls) (part ∷ parts) tell = let same = AllTell-length ls parts tell.1 in omega (arith, same)

pub AllTell-more : (ls : List (List ℕ)) (parts : List PartValue) (line : List ℕ) (part : PartValue) → AllTell ls parts
    → TellsPart line part → AllTell (ls ++ line ∷ []) (parts ++ part ∷ [])
AllTell-more [] [] line part tell one = (one, tt)
AllTell-more [] (other ∷ parts) line part tell one = absurd tell
AllTell-more (l ∷ ls) [] line part tell one = absurd tell
AllTell-more (l ∷ ls) (other ∷ parts) line part tell one = (tell.0, AllTell-more ls parts line part tell.1 one)

-- ---- the row of some parts

pub row-is : (row : Option Row) (parts : List PartValue) → MayBeRowOf row parts → AreInRow parts
row-is row parts none = grind (arith, common_steps)

-- ---- from one line to the next

-- some of the bytes to come were given, and then more
pub Gives-more : (a b c : Option (List ℕ)) (piece : List ℕ) → Gives a b → Consumes b c piece → Gives a c
Gives-more a b c piece gave given = (gave.0 ++ piece, Consumes-trans a b c gave.0 piece gave.1 given)

-- what was read of a text was joined, and the rest is to come
abbrev pub Coming : Option (List ℕ) → Option (List ℕ) → Joiner → Joiner → List ℕ → Type 0
Coming known now start joiner ahead = IfSome known (λ text. (left : List ℕ) × (now ≡ Some left)
    × ((parts : List PartValue) → HasJoined start parts → Partway text parts joiner (ahead ++ left)))

pub Coming-start : (known : Option (List ℕ)) (joiner : Joiner) → Coming known known joiner joiner []
Coming-start None joiner = tt
Coming-start (Some text) joiner = (
  text,
  refl,
  λ parts joined. record {
    before = [];
    told = [];
    split = refl;
    tells = tt;
    joined = subst (HasJoined joiner) (sym (append-nil parts)) joined;
  },
)

module _ (known now after : Option (List ℕ)) (start old new : Joiner) (before behind : List ℕ)
    (coming : Coming known now start old before) where
  -- what came of the next line
  abbrev pub Next : Result (Option PartValue) JoinFault → Type 0
  Next r = IfSome now (λ bytes. (left : List ℕ) × (after ≡ Some left) × ((parts : List PartValue)
      → HasJoined old parts → JoinsNext (before ++ bytes) parts new (behind ++ left) r))

  pub Coming-joined : (part : PartValue) → Next (Ok (Some part)) → Coming known after start new behind
  Coming-joined part next = IfSome_then known coming (λ text h.
      let n = rw h.1 at next in (
        n.0,
        n.1,
        λ parts joined.
            let p = h.2 parts joined in
            let j = n.2 (parts ++ p.told) p.joined in
            record {
              before = p.before ++ j.0 ∷ [];
              told = p.told ++ part ∷ [];
              split = p.split ∙ ap (λ ls. p.before ++ ls) j.1
                  ∙ sym (append_assoc p.before (j.0 ∷ []) (lines (behind ++ n.0)));
              tells = AllTell-more p.before p.told j.0 part p.tells j.2;
              joined = subst (HasJoined new) (append_assoc parts p.told (part ∷ [])) j.3;
            },
      ))

  pub Coming-wrong : (number : ℕ) (fault : PartFault) → Next (Err (Line number fault))
      → IfSome known (λ text. (parts : List PartValue) → HasJoined start parts
      → StopsAt text parts (number - joined_count start) fault)
  Coming-wrong number fault next = IfSome_then known coming (λ text h parts joined.
      let n = rw h.1 at next in
      let p = h.2 parts joined in
      let j = n.2 (parts ++ p.told) p.joined in
      let told = length-append parts p.told in
      let same = AllTell-length p.before p.told p.tells in
      let size = joined.size in
      let place = j.3 in (
        p.before,
        j.0,
        j.1,
        p.told,
        p.split ∙ ap (λ ls. p.before ++ ls) j.2,
        omega (arith, told, same, size, place),
        p.tells,
        row-is old.row (parts ++ p.told) p.joined.row,
        j.4,
      ))

  -- a read failed: what was joined stays
  pub Coming-failed : new ≡ old
      → IfSome now (λ bytes. (left : List ℕ) × (after ≡ Some left)
      × (let r : Result (Option PartValue) JoinFault = Err Read in Leaves (before ++ bytes) behind left r))
      → IfSome known (λ text. (parts : List PartValue) → HasJoined start parts
      → LeavesJoined text parts new after Read)
  Coming-failed same leaves = grind (arith, common_steps, IfSome_then)

  -- and where a line is wrong
  pub Coming-halts : (number : ℕ) (fault : PartFault) → new ≡ old → number ≡ joined_count old + 1
      → IfSome known (λ text. (parts : List PartValue) → HasJoined start parts
      → LeavesJoined text parts new after (Line (number - joined_count start) fault))
  Coming-halts number fault same is = IfSome_then known coming (λ text h parts joined.
      let p = h.2 parts joined in
      let told = length-append parts p.told in
      let size = joined.size in
      let all = p.joined.size in
      let lines_told = AllTell-length p.before p.told p.tells in
      rw same (before ++ h.0, p, omega (arith, is, told, size, all, lines_told)))
