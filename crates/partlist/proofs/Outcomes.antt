-- A text has one outcome, however its lines are joined.
use Rattle.std.proofs.Common.{◌≡◌, ℕ, ◌+◌, ◌*◌, List, [], ◌∷◌, ◌++◌, length, refl, sym, ap, subst, ◌∙◌, arith}
use Rattle.std.proofs.Common.{◌⊎◌, inl, inr, append_assoc}
use Rattle.b3.specs.declared.row.PartValue.{PartValue}
use Rattle.partlist.specs.Joined.{AllTell, AreInRow, FollowEachOther, IsWhole, IsWrongBehind, TellsPart}
use Rattle.partlist.specs.Joined.{bytes_of, last_of}
use Rattle.partlist.specs.Laws.{NoneStops, OneStop}
use Rattle.partlist.specs.declared.fault.PartFault.{PartFault}
use Rattle.partlist.specs.declared.fault.PartFault.TheVariants.{NotAPart, BytesMissing, Overlaps, NotWhole}
use Rattle.partlist.proofs.Parsing.{one_meaning}

bytes_of-append : (xs ys : List PartValue) → bytes_of (xs ++ ys) ≡ bytes_of xs + bytes_of ys
bytes_of-append [] ys = omega arith
bytes_of-append (x ∷ xs) ys = let rest = bytes_of-append xs ys in omega (arith, rest)

last_of-append : (n : ℕ) (xs ys : List PartValue) → last_of n (xs ++ ys) ≡ last_of (last_of n xs) ys
last_of-append n [] ys = refl
last_of-append n (x ∷ xs) ys = last_of-append x.len xs ys

same_part : (line : List ℕ) (p q : PartValue) → TellsPart line p → TellsPart line q
    → (p.first_chunk ≡ q.first_chunk) × (p.len ≡ q.len)
same_part line p q t u = let same = one_meaning line _ _ _ _ _ _ t.1 u.1 in (same.0, same.1)

-- parts that the same lines tell have as many bytes, and so has the last of them
same_bytes : (ls : List (List ℕ)) (xs ys : List PartValue) → AllTell ls xs → AllTell ls ys → bytes_of xs ≡ bytes_of ys
same_bytes (l ∷ ls) (x ∷ xs) (y ∷ ys) t u =
    let one = (same_part l x y t.0 u.0).1 in
    let rest = same_bytes ls xs ys t.1 u.1 in
    omega (arith, one, rest)
same_bytes ls xs ys t u = grind arith

same_last : (n : ℕ) (ls : List (List ℕ)) (xs ys : List PartValue) → AllTell ls xs → AllTell ls ys
    → last_of n xs ≡ last_of n ys
same_last n (l ∷ ls) (x ∷ xs) (y ∷ ys) t u =
    ap (λ k. last_of k xs) (same_part l x y t.0 u.0).1 ∙ same_last y.len ls xs ys t.1 u.1
same_last n ls xs ys t u = grind arith

-- a part in a row begins where those before it end, the last of which is whole
pub place_in_row : (n last : ℕ) (xs : List PartValue) (p : PartValue) (ys : List PartValue)
    → FollowEachOther n last (xs ++ p ∷ ys)
    → (1024 * p.first_chunk ≡ n + bytes_of xs) × IsWhole (last_of last xs)
place_in_row n last [] p ys follow = (omega (arith, follow.0), follow.1)
place_in_row n last (x ∷ xs) p ys follow =
    let rest = place_in_row (n + x.len) x.len xs p ys follow.2 in
    (omega (arith, rest.0), rest.1)

-- the parts of lines before and behind one of them
tell_split : (before : List (List ℕ)) (line : List ℕ) (after : List (List ℕ)) (more : List PartValue)
    → AllTell (before ++ line ∷ after) more
    → (xs : List PartValue) × (p : PartValue) × (ys : List PartValue) × (more ≡ xs ++ p ∷ ys) × AllTell before xs
    × TellsPart line p
tell_split [] line after [] t = absurd t
tell_split [] line after (p ∷ ys) t = ([], p, ys, refl, tt, t.0)
tell_split (l ∷ before) line after [] t = absurd t
tell_split (l ∷ before) line after (x ∷ more) t =
    let rest = tell_split before line after more t.1 in
    (x ∷ rest.0, rest.1, rest.2, ap (λ ps. x ∷ ps) rest.3, (t.0, rest.4), rest.5)

fits : (parts : List PartValue) (line : List ℕ) (p : PartValue) (fault : PartFault) → TellsPart line p
    → 1024 * p.first_chunk ≡ bytes_of parts → IsWhole (last_of 1024 parts) → IsWrongBehind parts line fault → ⊥
fits parts line p NotAPart tells place whole wrong = wrong p tells
fits parts line p BytesMissing tells place whole wrong =
    let same = (same_part line p wrong.0 tells wrong.1).0 in
    let off = wrong.2 in
    absurd (omega (arith, same, off, place))
fits parts line p Overlaps tells place whole wrong =
    let same = (same_part line p wrong.0 tells wrong.1).0 in
    let off = wrong.2 in
    absurd (omega (arith, same, off, place))
fits parts line p NotWhole tells place whole wrong = wrong.3 whole

-- a line that can't be joined is not among lines that can
not_among : (parts told more : List PartValue) (before : List (List ℕ)) (line : List ℕ) (after : List (List ℕ))
    (fault : PartFault) → AllTell before told → IsWrongBehind (parts ++ told) line fault
    → AllTell (before ++ line ∷ after) more → AreInRow (parts ++ more) → ⊥
not_among parts told more before line after fault tells wrong all row =
    let cut = tell_split before line after more all in
    let whole : parts ++ more ≡ (parts ++ cut.0) ++ cut.1 ∷ cut.2
    = ap (λ ps. parts ++ ps) cut.3 ∙ sym (append_assoc parts cut.0 (cut.1 ∷ cut.2)) in
    let at = place_in_row 0 1024 (parts ++ cut.0) cut.1 cut.2 (subst AreInRow whole row) in
    let bytes : bytes_of (parts ++ cut.0) ≡ bytes_of (parts ++ told)
    = bytes_of-append parts cut.0 ∙ ap (λ n. bytes_of parts + n) (same_bytes before cut.0 told cut.4 tells)
    ∙ sym (bytes_of-append parts told) in
    let last : last_of 1024 (parts ++ cut.0) ≡ last_of 1024 (parts ++ told)
    = last_of-append 1024 parts cut.0 ∙ same_last (last_of 1024 parts) before cut.0 told cut.4 tells
    ∙ sym (last_of-append 1024 parts told) in
    let place = at.0 in
    fits (parts ++ told) line cut.1 fault cut.5 (omega (arith, place, bytes)) (subst IsWhole last at.1) wrong

pub none_stops : NoneStops
none_stops text parts more number fault all row (before, line, after, told, split, place, tells, joined, wrong) =
    not_among parts told more before line after fault tells wrong (subst (λ ls. AllTell ls more) split all) row

-- two places in one list
places : (xs ys : List (List ℕ)) (l k : List ℕ) (cs bs : List (List ℕ)) → xs ++ l ∷ cs ≡ ys ++ k ∷ bs
    → ((xs ≡ ys) × (l ≡ k)) ⊎ (((m : List (List ℕ)) × (ys ≡ xs ++ l ∷ m)) ⊎ ((m : List (List ℕ)) × (xs ≡ ys ++ k ∷ m)))
places [] [] l k cs bs e = inl (refl, cc)
places [] (y ∷ ys) l k cs bs e = inr (inl (ys, let head : l ≡ y = cc in ap (λ x. x ∷ ys) (sym head)))
places (x ∷ xs) [] l k cs bs e = inr (inr (xs, let head : x ≡ k = cc in ap (λ y. y ∷ xs) head))
places (x ∷ xs) (y ∷ ys) l k cs bs e =
    let head : x ≡ y = cc in
    let tail : xs ++ l ∷ cs ≡ ys ++ k ∷ bs = cc in
    elim (places xs ys l k cs bs tail) [
      | inl same ↦ let a = same.0 in let b = same.1 in inl (cc, b)
      | inr apart ↦ elim apart [
        | inl later ↦ let a = later.1 in inr (inl (later.0, cc))
        | inr earlier ↦ let a = earlier.1 in inr (inr (earlier.0, cc))
      ]
    ]

-- of one line one thing is wrong
one_fault : (a b : List PartValue) (line : List ℕ) (f g : PartFault) → bytes_of a ≡ bytes_of b
    → IsWrongBehind a line f → IsWrongBehind b line g → f ≡ g
one_fault a b line NotAPart NotAPart e u v = refl
one_fault a b line NotAPart BytesMissing e u v = absurd (u v.0 v.1)
one_fault a b line NotAPart Overlaps e u v = absurd (u v.0 v.1)
one_fault a b line NotAPart NotWhole e u v = absurd (u v.0 v.1)
one_fault a b line BytesMissing NotAPart e u v = absurd (v u.0 u.1)
one_fault a b line BytesMissing BytesMissing e u v = refl
one_fault a b line BytesMissing Overlaps e u v = grind (arith, same_part line u.0 v.0 u.1 v.1)
one_fault a b line BytesMissing NotWhole e u v = grind (arith, same_part line u.0 v.0 u.1 v.1)
one_fault a b line Overlaps NotAPart e u v = absurd (v u.0 u.1)
one_fault a b line Overlaps BytesMissing e u v = grind (arith, same_part line u.0 v.0 u.1 v.1)
one_fault a b line Overlaps Overlaps e u v = refl
one_fault a b line Overlaps NotWhole e u v = grind (arith, same_part line u.0 v.0 u.1 v.1)
one_fault a b line NotWhole NotAPart e u v = absurd (v u.0 u.1)
one_fault a b line NotWhole BytesMissing e u v = grind (arith, same_part line u.0 v.0 u.1 v.1)
one_fault a b line NotWhole Overlaps e u v = grind (arith, same_part line u.0 v.0 u.1 v.1)
one_fault a b line NotWhole NotWhole e u v = refl

pub one_stop : OneStop
one_stop text parts n k f g (before, line, after, told, split, here, tells, row, wrong)
    (before', line', after', told', split', there, tells', row', wrong') =
    elim (places before before' line line' after after' (sym split ∙ split')) [
      | inl same ↦
          let moved = subst (λ ls. AllTell ls told) same.0 tells in
          let bytes = bytes_of-append parts told
          ∙ ap (λ i. bytes_of parts + i) (same_bytes before' told told' moved tells')
          ∙ sym (bytes_of-append parts told') in
          let size = ap length same.0 in (
            omega (arith, size, here, there),
            one_fault (parts ++ told) (parts ++ told') line' f g bytes
                (subst (λ l. IsWrongBehind (parts ++ told) l f) same.1 wrong) wrong',
          )
      | inr apart ↦ elim apart [
        | inl later ↦ absurd (not_among parts told told' before line later.0 f tells wrong
            (subst (λ ls. AllTell ls told') later.1 tells') row')
        | inr earlier ↦ absurd (not_among parts told' told before' line' earlier.0 g tells' wrong'
            (subst (λ ls. AllTell ls told) earlier.1 tells) row)
      ]
    ]
