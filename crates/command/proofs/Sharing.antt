-- The runs of all shares of a walk are one walk over all items.
use Rattle.std.proofs.lemmas.Grind.{common_steps}
use Rattle.std.proofs.Common.{◌≡◌, ◌∙◌, ◌==◌, ℕ, ◌<◌, ◌≤◌, List, [], ◌∷◌, ◌++◌, length, map, max, suc, zero, Bool, true}
use Rattle.std.proofs.Common.{false, Some, None, Ok, ap, ap₂, sym, subst, refl, arith, append_assoc, inl, inr, nat_lt}
use Rattle.std.proofs.lemmas.Bool.Decides.{nat_tests}
use Rattle.std.proofs.lemmas.List.{length-map}
use Rattle.std.proofs.lemmas.Slice.Zip.{AllZip-long}
use Rattle.std.specs.List.{AllByRecursion, AllZip, flat_map}
use Rattle.std.specs.Prelude.{◌&&◌, MatchBool, Option, if◌then◌else◌, unwrap_or}
use Rattle.request.specs.CommandLine.{Text}
use Rattle.sumlist.specs.Shared.{every}
use Rattle.sumlist.proofs.Shares.{every-map}
use Rattle.command.specs.Laws.{AreShares}
use Rattle.command.specs.Run.{Run, end_of, followed, prints}
use Rattle.command.specs.Walks.{InShare, Walk, Walks, WalksShare, is_last, has_no_line}
use Rattle.command.proofs.Turns.{every-all}

abbrev pub status : Run → ℕ
status r = (end_of r.ending).0

-- ---- lists in turn

equal : (n : ℕ) → (n == n) ≡ true
equal n = grind (arith, nat_tests)

unequal : (m n : ℕ) → m < n → (m == n) ≡ false
unequal m n below = grind (arith, nat_tests)

is_same : (m n : ℕ) → (m == n) ≡ true → m ≡ n
is_same m n h = grind (arith, nat_tests)

is_less : (m n : ℕ) → m ≤ n → (m == n) ≡ false → suc m ≤ n
is_less m n h other = grind (arith, nat_tests)

module _ {A B : Type 0} (P : A → B → Type 0) (n : ℕ) where
  -- what is so of the elements of shares, one for one, is so of those of one list, whose shares these are
  record InTurn (xs : List A) (shares : ℕ → List B) : Type 0 where
    pub ys : List B
    pub each : AllZip P xs ys
    pub are : (k : ℕ) → k ≤ n → shares k ≡ every n k ys

  none : (ys : List B) → AllZip P [] ys → ys ≡ []
  none ys h = grind (arith, common_steps)

  record Head (x : A) (xs : List A) (ys : List B) : Type 0 where
    pub y : B
    pub rest : List B
    pub is : ys ≡ y ∷ rest
    pub here : P x y
    pub more : AllZip P xs rest

  head : (x : A) (xs : List A) (ys : List B) → AllZip P (x ∷ xs) ys → Head x xs ys
  head x xs [] h = absurd h
  head x xs (y ∷ ys) h = record { y = y; rest = ys; is = refl; here = h.0; more = h.1 }

  abbrev turned : List B → (ℕ → List B) → ℕ → List B
  turned rest shares j = if j == n then rest else shares (suc j)

  in_turn : (xs : List A) (shares : ℕ → List B) → ((k : ℕ) → k ≤ n → AllZip P (every n k xs) (shares k))
      → InTurn xs shares
  in_turn [] shares each = record { ys = []; each = tt; are = λ k within. none (shares k) (each k within) }
  in_turn (x ∷ xs) shares each =
      let h = head x (every n n xs) (shares 0) (each 0 (omega arith)) in
      let behind = in_turn xs (turned h.rest shares) (turns h) in record {
        ys = h.y ∷ behind.ys;
        each = (h.here, behind.each);
        are = are h behind;
      }
    where
      turns : (h : Head x (every n n xs) (shares 0)) (j : ℕ) → j ≤ n → AllZip P (every n j xs) (turned h.rest shares j)
      turns h j within = on (j == n) refl
        where
          on : (b : Bool) → (j == n) ≡ b → AllZip P (every n j xs) (if b then h.rest else shares (suc j))
          on true at = rw (is_same j n at) h.more
          on false at = each (suc j) (is_less j n within at)

      are : (h : Head x (every n n xs) (shares 0)) (behind : InTurn xs (turned h.rest shares)) (k : ℕ) → k ≤ n
          → shares k ≡ every n k (h.y ∷ behind.ys)
      are h behind zero within =
          h.is ∙ ap (λ ys. h.y ∷ ys) (sym (ap (λ b. if b then h.rest else shares (suc n)) (equal n))
          ∙ behind.are n (omega arith))
      are h behind (suc j) within =
          sym (ap (λ b. if b then h.rest else shares (suc j)) (unequal j n (omega (arith, within))))
          ∙ behind.are j (omega (arith, within))

all_every : {A : Type 0} (P : A → Type 0) (n k : ℕ) (xs : List A) → AllByRecursion P xs
    → AllByRecursion P (every n k xs)
all_every P n k [] all = tt
all_every P n zero (x ∷ xs) (here, all) = (here, all_every P n n xs all)
all_every P n (suc k) (x ∷ xs) (here, all) = all_every P n k xs all

-- ---- the greatest status

abbrev pub highest : List Run → ℕ
highest [] = 0
highest (r ∷ runs) = max (status r) (highest runs)

-- that of a share is no greater
pub below : (n k : ℕ) (runs : List Run) → highest (every n k runs) ≤ highest runs
below n k [] = omega arith
below n zero (r ∷ runs) = let less = below n n runs in omega (arith, less)
below n (suc k) (r ∷ runs) = let less = below n k runs in omega (arith, less)

-- and one has it
pub record Reached (n : ℕ) (runs : List Run) : Type 0 where
  pub k : ℕ
  pub within : k ≤ n
  pub same : highest (every n k runs) ≡ highest runs

reached_more : (n : ℕ) (r : Run) (runs : List Run) → Reached n runs → Reached n (r ∷ runs)
reached_more n r runs rest = on (nat_lt (status r) (highest runs)) refl
  where
    most : highest (every n n runs) ≤ highest runs
    most = below n n runs

    first : max (status r) (highest (every n n runs)) ≡ max (status r) (highest runs) → Reached n (r ∷ runs)
    first same = record { k = 0; within = omega arith; same = same }

    on : (b : Bool) → nat_lt (status r) (highest runs) ≡ b → Reached n (r ∷ runs)
    on false at = let much : highest runs ≤ status r = grind (arith, nat_tests) in first (omega (arith, most, much))
    on true at = next (rest.k == n) refl
      where
        less : status r < highest runs
        less = grind (arith, nat_tests)

        next : (b : Bool) → (rest.k == n) ≡ b → Reached n (r ∷ runs)
        next true last =
            let same : highest (every n n runs) ≡ highest runs
            = subst (λ j. highest (every n j runs) ≡ highest runs) (is_same rest.k n last) rest.same in
            first (ap (max (status r)) same)
        next false before =
            let within = is_less rest.k n rest.within before in
            let same = rest.same in record { k = suc rest.k; within = within; same = omega (arith, same, less) }

pub reached : (n : ℕ) (runs : List Run) → Reached n runs
reached n [] = record { k = 0; within = omega arith; same = refl }
reached n (r ∷ runs) = reached_more n r runs (reached n runs)

-- ---- a walk as the list of the runs of its items

-- of items of which P is so: a step can be made from any state, one that is passed over prints nothing, and nothing
-- is said at the end
pub record IsFree {S I : Type 0} (goes_on : Bool) (w : Walk S I) (P : I → Type 0) : Type 0 where
  pub free : (x : S) (i : I) (run : Run) (y : S) → P i → w.step x i run y → (z : S) → (v : S) × w.step z i run v
  pub bare : (x : S) (i : I) (run : Run) (y : S) → w.step x i run y → has_no_line goes_on run.ending ≡ true
      → run.text ≡ []
  pub broken : (run : Run) (s : ℕ) → w.broken run → run.ending ≡ Ok s → ⊥
  pub quiet : (x : S) (status : ℕ) (run : Run) (s : ℕ) → w.ending x status run → run.ending ≡ Ok s
      → (run ≡ prints [] status)
  pub ends : (x : S) (status : ℕ) → w.ending x status (prints [] status)

module _ (goes_on : Bool) where
  abbrev lined : Bool → Run → Run
  lined shared r = if shared && has_no_line goes_on r.ending then record r { text = r.text ++ 10 ∷ [] } else r

  abbrev joined : Bool → ℕ → List Run → Run
  joined shared s [] = prints [] s
  joined shared s (r ∷ runs) = followed (lined shared r) (joined shared (max s (status r)) runs)

  lined_same : {A : Type 0} (f : Run → A) (shared : Bool) (r : Run) → f (record r { text = r.text ++ 10 ∷ [] }) ≡ f r
      → f (lined shared r) ≡ f r
  lined_same f shared r same = grind (arith, common_steps)

  module _ {S I : Type 0} (w : Walk S I) (P : I → Type 0) (plain : IsFree goes_on w P) where
    abbrev Did : I → Run → Type 0
    Did i r = P i × (z : S) × (v : S) × w.step z i r v × (is_last goes_on r.ending ≡ false)

    record Spread (s : ℕ) (items : List I) (run : Run) : Type 0 where
      pub runs : List Run
      pub each : AllZip Did items runs
      pub is : run ≡ joined true s runs

    first_is : (r first : Run) → InShare goes_on true r first → is_last goes_on first.ending ≡ false
        → first ≡ lined true r
    first_is r first h light = grind (arith, common_steps)

    spread : (x : S) (s : ℕ) (items : List I) → AllByRecursion P items → (run : Run) (st : ℕ)
        → Walks goes_on w true x s items run → run.ending ≡ Ok st → Spread s items run
    spread x s [] all run st (inl e) ends = record { runs = []; each = tt; is = plain.quiet x s run st e ends }
    spread x s [] all run st (inr b) ends = absurd (plain.broken run st b ends)
    spread x s (i ∷ items) all run st (inl b) ends = absurd (plain.broken run st b ends)
    spread x s (i ∷ items) (here, all) run st (inr (r, first, y, step, in_share, how)) ends =
        on (λ rest walks ends. spread y (max s (status r)) items all rest st walks ends)
        (is_last goes_on first.ending) refl how
      where
        on : ((rest : Run) → Walks goes_on w true y (max s (status r)) items rest → rest.ending ≡ Ok st
            → Spread (max s (status r)) items rest) → (b : Bool) → is_last goes_on first.ending ≡ b
            → MatchBool b (run ≡ first) ((rest : Run)
            × Walks goes_on w true y (max s (status first)) items rest × (run ≡ followed first rest))
            → Spread s (i ∷ items) run
        on more true heavy same =
            let light : is_last goes_on first.ending ≡ false
            = ap (is_last goes_on) (sym (ap (λ (q : Run). q.ending) same) ∙ ends) in
            let no : ⊥ = cc in absurd no
        on more false light (rest, walks, same) =
            let is = first_is r first in_share light in
            let ending : first.ending ≡ r.ending
            = ap (λ (q : Run). q.ending) is ∙ lined_same (λ q. q.ending) true r refl in
            let behind = more rest (rw (← ending) walks) (sym (ap (λ (q : Run). q.ending) same) ∙ ends) in record {
              runs = r ∷ behind.runs;
              each = ((here, x, y, step, ap (is_last goes_on) (sym ending) ∙ light), behind.each);
              is = same ∙ ap₂ followed is behind.is;
            }

    gather : (x : S) (s : ℕ) (items : List I) (runs : List Run) → AllZip Did items runs
        → Walks goes_on w false x s items (joined false s runs)
    gather x s [] [] h = inl (plain.ends x s)
    gather x s [] (r ∷ runs) h = absurd h
    gather x s (i ∷ items) [] h = absurd h
    gather x s (i ∷ items) (r ∷ runs) ((here, z, v, step, light), more) =
        let f = plain.free z i r v here step x in inr (
          r,
          r,
          f.0,
          f.1,
          refl,
          rw light (
            joined false (max s (status r)) runs,
            gather f.0 (max s (status r)) items runs more,
            refl,
          ),
        )

  -- ---- what is said

  abbrev said_of : Run → Option Text × List Text
  said_of r = (if has_no_line goes_on r.ending then None else Some r.text, r.notes ++ (end_of r.ending).1)

  abbrev AreBare : List Run → Type 0
  AreBare runs = AllByRecursion (λ (r : Run). has_no_line goes_on r.ending ≡ true → r.text ≡ []) runs

  joined_text : (shared : Bool) (s : ℕ) (runs : List Run) → AreBare runs → (joined shared s runs).text
      ≡ flat_map (λ s. unwrap_or s.0 (if shared then 10 ∷ [] else [])) (map said_of runs)
  joined_text shared s [] bare = refl
  joined_text shared s (r ∷ runs) (here, bare) = ap₂ (λ (a : Text) (b : Text). a ++ b)
      (on shared (has_no_line goes_on r.ending) here) (joined_text shared (max s (status r)) runs bare)
    where
      on : (c b : Bool) → (b ≡ true → r.text ≡ [])
          → (if c && b then record r { text = r.text ++ 10 ∷ [] } else r).text
          ≡ unwrap_or (if b then None else Some r.text) (if c then 10 ∷ [] else [])
      on true true bare = ap (λ (t : Text). t ++ 10 ∷ []) (bare refl)
      on false true bare = bare refl
      on true false bare = refl
      on false false bare = refl

  joined_notes : (shared : Bool) (s : ℕ) (runs : List Run)
      → (joined shared s runs).notes ≡ flat_map (λ s. s.1) (map said_of runs)
  joined_notes shared s [] = refl
  joined_notes shared s (r ∷ runs) =
      ap₂ (λ (a b : List Text). a ++ b) (lined_same (λ q. q.notes) shared r refl)
      (ap₂ (λ (a b : List Text). a ++ b) (lined_same (λ q. (end_of q.ending).1) shared r refl)
      (joined_notes shared (max s (status r)) runs))
      ∙ sym (append_assoc r.notes (end_of r.ending).1 (flat_map (λ s. s.1) (map said_of runs)))

  joined_ending : (shared : Bool) (s : ℕ) (runs : List Run) → (joined shared s runs).ending ≡ Ok (max s (highest runs))
  joined_ending shared s [] = ap Ok (omega arith)
  joined_ending shared s (r ∷ runs) = joined_ending shared (max s (status r)) runs ∙ ap Ok (omega arith)

-- ---- the law

more : (n : ℕ) → 0 < n → nat_lt 0 n ≡ true
more n h = grind (arith, nat_tests)

is_within : (n k : ℕ) → nat_lt n k ≡ false → k ≤ n
is_within n k h = grind (arith, nat_tests)

module _ {S I : Type 0} (goes_on : Bool) (w : Walk S I) (P : I → Type 0) (plain : IsFree goes_on w P) (x : S)
    (items : List I) (all : AllByRecursion P items) (n : ℕ) (shares : ℕ → Run) (st : ℕ → ℕ) (some : 0 < n)
    (did : (k : ℕ) → k ≤ n → WalksShare goes_on w (record { others = n; waiting = k }) x items (shares k)
    × ((shares k).ending ≡ Ok (st k))) where
  all_bare : (items : List I) (runs : List Run) → AllZip (Did goes_on w P plain) items runs → AreBare goes_on runs
  all_bare [] [] h = tt
  all_bare [] (r ∷ runs) h = absurd h
  all_bare (i ∷ items) [] h = absurd h
  all_bare (i ∷ items) (r ∷ runs) ((here, z, v, step, light), more) =
      (plain.bare z i r v step, all_bare items runs more)

  each : (k : ℕ) → k ≤ n → Spread goes_on w P plain 0 (every n k items) (shares k)
  each k within = grind (arith, common_steps, spread, all_every, more)

  own : (k : ℕ) (b : Bool) → nat_lt n k ≡ b → List Run
  own k true h = []
  own k false h = (each k (is_within n k h)).runs

  own_is : (k : ℕ) → k ≤ n → (b : Bool) (h : nat_lt n k ≡ b)
      → AllZip (Did goes_on w P plain) (every n k items) (own k b h) × (shares k ≡ joined goes_on true 0 (own k b h))
  unfolding own each
  own_is k within true h = let less : n < k = grind (arith, nat_tests) in absurd (omega (arith, less, within))
  own_is k within false h = let e = each k (is_within n k h) in (e.each, e.is)

  pub walk_is_shared : (run : Run) × WalksShare goes_on w (record { others = 0; waiting = 0 }) x items run
      × AreShares n shares (length items) run
  walk_is_shared =
      let turn = in_turn (Did goes_on w P plain) n items (λ k. own k (nat_lt n k) refl)
      (λ k within. (own_is k within (nat_lt n k) refl).0) in
      let runs = turn.ys in
      let bare = all_bare items runs turn.each in
      let one = reached n runs in
      let whole = joined goes_on false 0 runs in
      let whole_status = ap (λ e. (end_of e).0) (joined_ending goes_on false 0 runs) in
      let is : (k : ℕ) → k ≤ n → shares k ≡ joined goes_on true 0 (every n k runs)
      = λ k within. (own_is k within (nat_lt n k) refl).1 ∙ ap (joined goes_on true 0) (turn.are k within) in
      let said : (k : ℕ) → map (said_of goes_on) (every n k runs) ≡ every n k (map (said_of goes_on) runs)
      = λ k. sym (every-map (said_of goes_on) n k runs) in
      let status_is : (k : ℕ) → k ≤ n → status (shares k) ≡ max 0 (highest (every n k runs))
      = λ k within. ap status (is k within) ∙ ap (λ e. (end_of e).0)
      (joined_ending goes_on true 0 (every n k runs)) in (
        whole,
        rw (every-all items) (gather goes_on w P plain x 0 items runs turn.each),
        (
          map (said_of goes_on) runs,
          length-map runs (said_of goes_on) ∙ AllZip-long (Did goes_on w P plain) items runs turn.each,
          joined_notes goes_on false 0 runs,
          joined_text goes_on false 0 runs bare,
          λ k within. (
            ap (λ (r : Run). r.text) (is k within)
                ∙ joined_text goes_on true 0 (every n k runs) (all_every _ n k runs bare)
                ∙ ap (flat_map (λ s. unwrap_or s.0 (10 ∷ []))) (said k),
            ap (λ (r : Run). r.notes) (is k within) ∙ joined_notes goes_on true 0 (every n k runs)
                ∙ ap (flat_map (λ s. s.1)) (said k),
            let own = status_is k within in let less = below n k runs in omega (arith, own, less, whole_status),
          ),
          (
            one.k,
            one.within,
            let own = status_is one.k one.within in let same = one.same in omega (arith, own, same, whole_status),
          ),
        ),
      )
