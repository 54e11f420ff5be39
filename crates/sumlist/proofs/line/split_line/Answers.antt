use Rattle.sumlist.proofs.Common.{◌≡◌, Bool, IsUntagged, None, Option, Some, false, false≢true, refl, true}
use Rattle.std.proofs.Common.{MatchBool, MatchOption}
use Rattle.std.specs.Prelude.{is_some}
use Rattle.sumlist.proofs.LineCases.{malformed_if, spells_if}
use Rattle.sumlist.proofs.line.split_line.Goals as goal

by_some : {A P X Y : Type 0} {Q : A → Type 0} (o : Option A) (b : Bool) → b ≡ is_some o → MatchOption o P Q
    → (P → Y) → ((a : A) → Q a → X) → MatchBool b X Y
by_some None b is found none some = rw is (none found)
by_some (Some a) b is found none some = rw is (some a found)

pub untagged_len-requires-clause-malformed : goal.untagged_len-requires-clause-malformed
untagged_len-requires-clause-malformed c =
    malformed_if _ c.args.kind _ c.without_cr.ensures (λ s. false≢true (c.if-is_skipped.ensures.1 s)) c.in-None.ensures

pub returns-in-None : goal.returns-in-None
returns-in-None c =
    let none = malformed_if _ c.args.kind _ c.without_cr.ensures (λ s. false≢true (c.if-is_skipped.ensures.1 s))
    c.in-None.ensures in
    by_some _ true c.if-is_some.ensures c.untagged_len.ensures (λ other. other)
    (λ n found. (none, found.0, found.1, found.2))

pub returns-in-None-2 : goal.returns-in-None-2
returns-in-None-2 c =
    let none = malformed_if _ c.args.kind _ c.without_cr.ensures (λ s. false≢true (c.if-is_skipped.ensures.1 s))
    c.in-None.ensures in (
      none,
      by_some {X = IsUntagged c.args.line.now c.args.kind} _ false c.if-is_some.ensures c.untagged_len.ensures (λ other. other)
          (λ n found. (none, found.0, found.1, found.2)),
    )

pub returns-in-Some : goal.returns-in-Some
returns-in-Some c = (
  c.in-Some.ensures.0,
  c.in-Some.ensures.2,
  spells_if c.args.line.now c.args.kind _ c.without_cr.ensures (λ s. false≢true (c.if-is_skipped.ensures.1 s))
      (c.if-not-is_line.ensures.0 refl) _ c.in-Some.ensures.1,
)
