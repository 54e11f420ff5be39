-- How far a walk has come, and what is done of it behind the next item.
use Rattle.std.proofs.lemmas.Grind.{common_steps}
use Rattle.std.proofs.Common.{◌≡◌, ◌≢◌, ◌∙◌, ℕ, ◌-◌, List, [], ◌∷◌, ◌++◌, Bool, true, false, Option, Some, None, Result}
use Rattle.std.proofs.Common.{Ok, Err, IfSome, refl, sym, subst, arith, inl, inr, max, append_assoc, nat_lt, ◌==◌}
use Rattle.std.proofs.Common.{if◌then◌else◌}
use Rattle.std.proofs.KnownBytes.{Appends-nil}
use Rattle.std.proofs.lemmas.Bool.Decides.{nat_tests}
use Rattle.std.proofs.lemmas.Option.{IfSome_then}
use Rattle.std.specs.Prelude.{MatchBool, OnOk}
use Rattle.hashes.specs.declared.share.Share.{Share}
use Rattle.source.specs.Written.{Done, Failed, Shown}
use Rattle.source.proofs.Writing.{Done-after, Failed-after}
use Rattle.sumlist.specs.Shared.{every}
use Rattle.sumlist.proofs.Shares.{every-later}
use Rattle.command.specs.Run.{Run, TellsAll, end_of, followed, stops}
use Rattle.command.specs.Walks.{Walk, Walks}
use Rattle.command.specs.inside.Items.{Breaks, DoesWalk, EndsBy, Follows, MovesOn, Once}
use Rattle.command.specs.inside.Seen.{Does}
use Rattle.command.specs.inside.Troubles.{shown, trouble_of}
use Rattle.command.specs.declared.fault.Fault.{Fault}
use Rattle.command.proofs.Telling.{TellsAll-append}

-- ---- what a share says of the next

is_zero : (k : ℕ) → (k == 0) ≡ true → k ≡ 0
is_zero k h = grind (arith, nat_tests)

is_some : (k : ℕ) → (k == 0) ≡ false → k ≢ 0
is_some k h = grind (arith, nat_tests)

module _ {takes : Bool} {others o k soon : ℕ} (same : o ≡ others) (says : takes ≡ (k == 0))
    (next : soon ≡ (if k == 0 then o else k - 1)) where
  -- it is one of the share
  pub took : takes ≡ true → (k ≡ 0) × (soon ≡ others)
  took is = let none = sym says ∙ is in (is_zero k none, (rw none at next) ∙ same)

  -- or it is not
  pub passed_over : takes ≡ false → (k ≢ 0) × (soon ≡ k - 1)
  passed_over is = let some = sym says ∙ is in (is_some k some, rw some at next)

-- ---- the run of an item, and what follows it

printed_after : (is_whole : Bool) (a b c : Shown) (x y : List ℕ) → Done a b x
    → MatchBool is_whole (Done b c y) (Failed b c y) → MatchBool is_whole (Done a c (x ++ y)) (Failed a c (x ++ y))
printed_after true a b c x y first next = Done-after a b c x y first next
printed_after false a b c x y first next = Failed-after a b c x y first next

nothing : (a : Shown) → Done a a []
nothing a = (refl, Appends-nil a.contents)

-- what a run over the rest of the items does, whose failures are counted between two states
abbrev Rest : {T S I : Type 0} → (List Bool → T → T → Type 0) → Bool → Walk S I → Bool → S → ℕ → List I → T → T
    → Result ℕ Fault → Shown → Shown → Shown → Shown → Type 0
Rest counted goes_on w shared x status items p q r old new err_old err_new = (run : Run)
    × Walks goes_on w shared x status items run × Does run r old new × TellsAll err_old err_new run.notes
    × counted run.failures p q

-- what was done of an item, and what it leaves
abbrev pub OneOf : {T S I : Type 0} → (List Bool → T → T → Type 0) → Bool → Walk S I → Bool → S → I → Option S → T → T
    → Result ℕ Fault → Shown → Shown → Shown → Shown → Type 0
OneOf {T} {S} counted goes_on w shared x i last p q r = Once (λ run. (y : S) × w.step x i run y
    × OnOk r (last ≡ Some y)) goes_on shared (λ f. counted f p q) r

module _ {T : Type 0} {counted : List Bool → T → T → Type 0}
    (more : (f g : List Bool) (a b c : T) → counted f a b → counted g b c → counted (f ++ g) a c)
    {S I : Type 0} (goes_on : Bool) (w : Walk S I) where
  module _ (shared : Bool) (x : S) where
    did_next : (i : I) (items : List I) (status : ℕ) (last : Option S) (s : ℕ) (p q t : T) (a b e f : Shown)
        (o : OneOf counted goes_on w shared x i last p q (Ok s) a b e f) (r : Result ℕ Fault) (c g : Shown)
        → Rest counted goes_on w shared o.is_one.0 (max status s) items q t r b c f g
        → Rest counted goes_on w shared x status (i ∷ items) p t r a c e g
    did_next i items status last s p q t a b e f o r c g (rest, walks, does, tells, counts) =
        let h : Follows goes_on o.first s a b e f = o.ends in (
          followed o.first rest,
          inr (
            o.plain,
            o.first,
            o.is_one.0,
            o.is_one.1,
            o.in_share,
            rw h.light (rest, rw (← h.status) walks, refl),
          ),
          record {
            ending = does.ending;
            out = printed_after rest.is_whole a b c o.first.text rest.text h.out does.out;
            cut = does.cut;
          },
          subst (λ (n : List (List ℕ)). TellsAll e g n)
              (append_assoc o.first.notes (end_of o.first.ending).1 rest.notes)
              (TellsAll-append e f g (o.first.notes ++ (end_of o.first.ending).1) rest.notes h.err tells),
          more o.first.failures rest.failures p q t o.counts counts,
        )

    did_stop : (i : I) (items : List I) (status : ℕ) (last : Option S) (h : Fault) (p q : T) (a b e f : Shown)
        → OneOf counted goes_on w shared x i last p q (Err h) a b e f
        → Rest counted goes_on w shared x status (i ∷ items) p q (Err h) a b e f
    did_stop i items status last h p q a b e f o = grind (arith, common_steps)

    did_break : (status : ℕ) (items : List I) (h : Fault) (p q : T) (b e : Shown)
        → Breaks w.broken h (λ f. counted f p q) → Rest counted goes_on w shared x status items p q (Err h) b b e e
    did_break status items h p q b e (failures, broken, counts) = (
      record (stops (shown (trouble_of h))) { failures = failures },
      on items,
      record { ending = refl; out = nothing b; cut = λ is. cc },
      refl,
      counts,
    )
      where
        on : (items : List I)
            → Walks goes_on w shared x status items (record (stops (shown (trouble_of h))) { failures = failures })
        on [] = inr broken
        on (i ∷ items) = inl broken

    did_end : (status : ℕ) (r : Result ℕ Fault) (p q : T) (b e : Shown)
        → EndsBy (w.ending x status) r (λ f. counted f p q) → Rest counted goes_on w shared x status [] p q r b b e e
    did_end status r p q b e h = grind (arith, common_steps, nothing)

  -- what is done of an item and the others of its share is done of those to come
  of_share : (share : Share) (x : S) (status waiting : ℕ) (l : List I) (i : I) (after : List I) → l ≡ i ∷ after
      → waiting ≡ 0 → (p q t : T) (r : Result ℕ Fault) (a b e f : Shown) → counted [] p q
      → Rest counted goes_on w (nat_lt 0 share.others) x status
      (i ∷ every share.others share.others after) q t r a b e f
      → Rest counted goes_on w (nat_lt 0 share.others) x status (every share.others waiting l) p t r a b e f
  of_share share x status waiting l i after is zero p q t r a b e f none (run, walks, does, tells, counts) =
      (run, rw (is, zero) walks, does, tells, more [] run.failures p q t none counts)

-- ---- how far the loop has come

-- what is left completes the walk
pub record Goes {T S I : Type 0} (goes_on : Bool) (w : Walk S I) (counted : List Bool → T → T → Type 0) (share : Share)
    (start : S) (all : List I) (x : S) (items : List I) (waiting status : ℕ) (p q : T) (a b e f : Shown) : Type 0 where
  pub go : (r : Result ℕ Fault) (t : T) (c g : Shown)
      → Rest counted goes_on w (nat_lt 0 share.others) x status (every share.others waiting items) q t r b c f g
      → DoesWalk goes_on w share start all (λ f. counted f p t) r a c e g

pub record Walked {T S I : Type 0} (goes_on : Bool) (w : Walk S I) (counted : List Bool → T → T → Type 0)
    (share : Share) (start : Option S) (all : Option (List I)) (now : Option S) (items : Option (List I))
    (waiting status : ℕ) (p q : T) (a b e f : Shown) : Type 0 where
  pub goes : IfSome start (λ s. IfSome all (λ l. (x : S) × (rest : List I) × (now ≡ Some x)
      × (items ≡ Some rest) × Goes goes_on w counted share s l x rest waiting status p q a b e f))

then_both : {A B : Type 0} (o : Option A) (p : Option B) {P Q : A → B → Type 0} → IfSome o (λ x. IfSome p (P x))
    → ((x : A) (y : B) → P x y → Q x y) → IfSome o (λ x. IfSome p (Q x))
then_both o p h so = IfSome_then o h (λ x h. IfSome_then p h (λ y h. so x y h))

-- the whole walk was done
abbrev DoesAll : {T S I : Type 0} → (List Bool → T → T → Type 0) → Bool → Walk S I → Share → Option S → Option (List I)
    → T → T → Result ℕ Fault → Shown → Shown → Shown → Shown → Type 0
DoesAll counted goes_on w share start all p t r a b e f =
    IfSome start (λ s. IfSome all (λ l. DoesWalk goes_on w share s l (λ g. counted g p t) r a b e f))

-- what was done of the item that was moved to, by a walk
abbrev Ones : {T S I : Type 0} → (List Bool → T → T → Type 0) → Bool → Walk S I → Share → (I → Type 0) → Option S
    → Option S → T → T → Result ℕ Fault → Shown → Shown → Shown → Shown → Type 0
Ones {T} {S} {I} counted goes_on v share at later last t u r a b e f = IfSome later (λ x. (i : I) → at i
    → OneOf counted goes_on v (nat_lt 0 share.others) x i last t u r a b e f)

module _ {T S I : Type 0} {goes_on : Bool} {w : Walk S I} {counted : List Bool → T → T → Type 0} {share : Share}
    {start : Option S} {all : Option (List I)} where
  pub walked_start : {p : T} {a e : Shown} → Walked goes_on w counted share start all start all
      share.waiting 0 p p a a e e
  walked_start {p} {a} {e} = grind (arith, common_steps)

  module _ (more : (f g : List Bool) (a b c : T) → counted f a b → counted g b c → counted (f ++ g) a c)
      {now : Option S} {items : Option (List I)} {waiting status : ℕ} {p q : T} (t : T) {a b e f : Shown}
      (so_far : Walked goes_on w counted share start all now items waiting status p q a b e f) where
    pub walked_broken : (h : Fault) → IfSome start (λ _. IfSome now (λ _. Breaks w.broken h (λ f. counted f q t)))
        → DoesAll counted goes_on w share start all p t (Err h) a b e f
    walked_broken h breaks = on start all breaks so_far.goes
      where
        on : (o : Option S) (l : Option (List I))
            → IfSome o (λ _. IfSome now (λ _. Breaks w.broken h (λ f. counted f q t)))
            → IfSome o (λ s. IfSome l (λ l. (x : S) × (rest : List I) × (now ≡ Some x) × (items ≡ Some rest)
            × Goes goes_on w counted share s l x rest waiting status p q a b e f))
            → DoesAll counted goes_on w share o l p t (Err h) a b e f
        on None l broken goes = tt
        on (Some s) None broken goes = tt
        on (Some s) (Some l) broken (x, rest, is, are, goes) = goes.go (Err h) t b f (did_break more goes_on w
            (nat_lt 0 share.others) x status (every share.others waiting rest) h q t b f (rw is at broken))

    -- the next item was had, or there is none
    module _ (later : Option S) (rest : Option (List I)) (at : I → Type 0) (found : Bool)
        (moved : IfSome items (λ l. MovesOn l rest at (Ok found)))
        (had : IfSome now (λ x. (later ≡ Some x) × counted [] q t)) where
      pub walked_end : found ≡ false → (r : Result ℕ Fault) (u : T)
          → IfSome later (λ x. EndsBy (w.ending x status) r (λ f. counted f t u))
          → DoesAll counted goes_on w share start all p u r a b e f
      walked_end none r u ends = then_both start all so_far.goes (λ s l (x, to_come, is, are, goes).
          let m : to_come ≡ [] = rw (are, none) at moved in
          let h : (later ≡ Some x) × counted [] q t = rw is at had in
          let end : EndsBy (w.ending x status) r (λ f. counted f t u) = rw h.0 at ends in
          let it = did_end more goes_on w (nat_lt 0 share.others) x status r t u b f end in
          goes.go r u b f (it.0, rw m it.1, it.2, it.3, more [] it.0.failures q t u h.1 it.4))

      module _ (is_found : found ≡ true) where
        pub walked_over : {soon : ℕ} → (waiting ≢ 0) × (soon ≡ waiting - 1)
            → Walked goes_on w counted share start all later rest soon status p t a b e f
        walked_over {soon} (some, is_soon) = record {
          goes = then_both start all so_far.goes (λ s l (x, to_come, is, are, goes).
              let m : (i : I) × (after : List I) × (to_come ≡ i ∷ after) × at i × (rest ≡ Some after)
              = rw (are, is_found) at moved in
              let h : (later ≡ Some x) × counted [] q t = rw is at had in (
                x,
                m.1,
                h.0,
                m.4,
                record {
                  go = λ r u c g did. goes.go r u c g (
                    did.0,
                    rw (m.2, every-later share.others waiting m.0 m.1 some) (rw is_soon at did.1),
                    did.2,
                    did.3,
                    more [] did.0.failures q t u h.1 did.4,
                  );
                },
              ));
        }

        -- what was done of the item, by a walk whose steps are those of this one
        module _ (v : Walk S I) (so : (x : S) (i : I) (run : Run) (y : S) → v.step x i run y → w.step x i run y) where
          of_one : (last : Option S) (u : T) (r : Result ℕ Fault) (c g : Shown)
              → Ones counted goes_on v share at later last t u r b c f g → (x : S) → later ≡ Some x → (i : I) → at i
              → OneOf counted goes_on w (nat_lt 0 share.others) x i last t u r b c f g
          of_one last u r c g ones x is i here = grind (arith, common_steps)

          pub walked_one : {soon : ℕ} (s : ℕ) (last : Option S) (u : T) (c g : Shown) {after : ℕ}
              → (waiting ≡ 0) × (soon ≡ share.others) → after ≡ max status s
              → Ones counted goes_on v share at later last t u (Ok s) b c f g
              → Walked goes_on w counted share start all last rest soon after p u a c e g
          walked_one {soon} s last u c g {after} (none, is_soon) most ones = record {
            goes = then_both start all so_far.goes (λ z l (x, to_come, is, are, goes).
                let m : (i : I) × (after : List I) × (to_come ≡ i ∷ after) × at i × (rest ≡ Some after)
                = rw (are, is_found) at moved in
                let h : (later ≡ Some x) × counted [] q t = rw is at had in
                let o = of_one last u (Ok s) c g ones x h.0 m.0 m.3 in (
                  o.is_one.0,
                  m.1,
                  o.is_one.2,
                  m.4,
                  record {
                    go = λ r v d k did.
                        let it = did_next more goes_on w (nat_lt 0 share.others) x m.0
                        (every share.others share.others m.1)
                        status last s t u v b c f g o r d k (rw (is_soon, most) at did) in
                        goes.go r v d k (of_share more goes_on w share x status waiting to_come m.0 m.1 m.2
                        none q t v r b
                        d f k h.1 it);
                  },
                ));
          }

          pub walked_stop : (h : Fault) (last : Option S) (u : T) (c g : Shown) → waiting ≡ 0
              → Ones counted goes_on v share at later last t u (Err h) b c f g
              → DoesAll counted goes_on w share start all p u (Err h) a c e g
          walked_stop h last u c g none ones = then_both start all so_far.goes (λ z l (x, to_come, is, are, goes).
              let m : (i : I) × (after : List I) × (to_come ≡ i ∷ after) × at i × (rest ≡ Some after)
              = rw (are, is_found) at moved in
              let here : (later ≡ Some x) × counted [] q t = rw is at had in
              let o = of_one last u (Err h) c g ones x here.0 m.0 m.3 in
              let it = did_stop more goes_on w (nat_lt 0 share.others) x m.0
              (every share.others share.others m.1) status last h
              t u b c f g o in
              goes.go (Err h) u c g (of_share more goes_on w share x status waiting to_come m.0 m.1 m.2
              none q t u (Err h)
              b c f g here.1 it))

-- an end by a walk whose ends are those of another
pub ended : {S I : Type 0} (v w : Walk S I) (counted : List Bool → Type 0) (now : Option S) (status : ℕ)
    (r : Result ℕ Fault) → ((x : S) (status : ℕ) (run : Run) → v.ending x status run → w.ending x status run)
    → IfSome now (λ x. EndsBy (v.ending x status) r counted) → IfSome now (λ x. EndsBy (w.ending x status) r counted)
ended {S} v w counted now status r so ends = grind (arith, common_steps, IfSome_then)
