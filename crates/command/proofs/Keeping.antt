-- The account of a walk.
use Rattle.std.proofs.lemmas.Grind.{common_steps}
use Rattle.std.proofs.Common.{arith, ◌≡◌, ◌≢◌, ◌∙◌, ℕ, ◌-◌, List, [], ◌∷◌, ◌++◌, Option, Some, Ok, IfSome, true, refl}
use Rattle.std.proofs.Common.{ap, sym, subst, append-nil, append_assoc}
use Rattle.std.proofs.lemmas.Option.{IfSome_then}
use Rattle.hashes.specs.declared.share.Share.{Share}
use Rattle.sumlist.specs.Shared.{every}
use Rattle.sumlist.proofs.Shares.{every-later}
use Rattle.command.specs.inside.Items.{MovesOn, Within}

-- the account of the items so far was kept, and these are to come
pub record Kept {T I : Type 0} (keeps : List I → T → T → Type 0) (share : Share) (start now : Option (List I))
    (waiting : ℕ) (a b : T) : Type 0 where
  pub room : IfSome start (λ s. (done : List I) × (l : List I) × (now ≡ Some l)
      × (every share.others share.waiting s ≡ done ++ every share.others waiting l) × keeps done a b)

module _ {T I : Type 0} {keeps : List I → T → T → Type 0} {share : Share} {start : Option (List I)} where
  pub kept_start : {a : T} → keeps [] a a → Kept keeps share start start share.waiting a a
  kept_start {a} none = grind (arith, common_steps)

  module _ (both : (x y : List I) (a b c : T) → keeps x a b → keeps y b c → keeps (x ++ y) a c)
      {now : Option (List I)} {waiting : ℕ} {a b : T} (c : T) (k : Kept keeps share start now waiting a b)
      (next : keeps [] b c) where
    still : (done : List I) (d : T) → keeps done a c → keeps [] c d → keeps done a d
    still done d so_far none = subst (λ x. keeps x a d) (append-nil done) (both done [] a c d so_far none)

    moved_to : (done : List I) → keeps done a b → keeps done a c
    moved_to done so_far = subst (λ x. keeps x a c) (append-nil done) (both done [] a b c so_far next)

    -- no item was moved to
    pub kept_end : (d : T) → keeps [] c d → IfSome start (λ s. Within keeps share s a d)
    kept_end d last = grind (arith, common_steps, IfSome_then, still, moved_to)

    module _ (later : Option (List I)) (at : I → Type 0) (moved : IfSome now (λ l. MovesOn l later at (Ok true))) where
      pub kept_over : {soon : ℕ} → (waiting ≢ 0) × (soon ≡ waiting - 1) → Kept keeps share start later soon a c
      kept_over {soon} h = grind (arith, common_steps, IfSome_then, every-later, moved_to)

      module _ (d : T) (zero : waiting ≡ 0) (did : (i : I) → at i → keeps (i ∷ []) c d) where
        pub kept_one : {soon : ℕ} → soon ≡ share.others → Kept keeps share start later soon a d
        kept_one {soon} is_soon = record {
          room = IfSome_then start k.room (λ s (done, l, is, split, so_far).
              let m : (i : I) × (rest : List I) × (l ≡ i ∷ rest) × at i × (later ≡ Some rest) = rw is at moved in
              let same : every share.others waiting l ≡ m.0 ∷ every share.others soon m.1
              = rw (m.2, zero, is_soon) refl in (
                done ++ m.0 ∷ [],
                m.1,
                m.4,
                split ∙ ap (λ x. done ++ x) same ∙ sym (append_assoc done (m.0 ∷ []) (every share.others soon m.1)),
                both done (m.0 ∷ []) a c d (moved_to done so_far) (did m.0 m.3),
              ));
        }

        pub kept_stop : IfSome start (λ s. Within keeps share s a d)
        kept_stop = IfSome_then start (kept_one refl).room (λ s (done, l, is, split, so_far).
            (done, every share.others share.others l, split, so_far))
