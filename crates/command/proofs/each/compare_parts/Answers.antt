use Rattle.std.proofs.Common.{◌≡◌, ◌∙◌, Some, arith, max, refl}
use Rattle.std.proofs.lemmas.Bool.Decides.{nat_tests}
use Rattle.std.proofs.lemmas.Grind.{common_steps}
use Rattle.partlist.specs.inside.Reader.{ahead}
use Rattle.command.specs.inside.Verifying.{status_of}
use Rattle.command.proofs.VerifiedParts.{gives_part, next_part, says_end, says_fault, says_unread, says_unwritten}
use Rattle.command.proofs.VerifiedParts.{so_more, so_over, so_start}
use Rattle.command.proofs.each.compare_parts.Goals as goal

pub parts-init : goal.parts-init
parts-init g c = record {
  so = λ text m is gives. so_start c.args.file.share text m
      (λ i. g.P.Places.gives c.args.places.now i c.args.file.name.now (Some m)) _ _ _ _ _ _ _ c.new-joiner.ensures
      c.new-reader.ensures is gives;
  same = refl;
  size = refl;
}

pub returns-in-Err-clause-compared : goal.returns-in-Err-clause-compared
returns-in-Err-clause-compared g c = λ text m is gives.
    says_fault (c.parts.invariant.so text m is gives) c.add_next.new.self (ahead c.add_next.new.reader)
    (g.L.Feed.remaining c.add_next.new.feed) _ c.in-Err.fault c.args.parts _ refl c.of_join.ensures
    c.in-Err.ensures.joined c.in-Err.ensures.count

pub returns-in_err-verdict-clause-compared : goal.returns-in_err-verdict-clause-compared
returns-in_err-verdict-clause-compared g c = λ text m is gives.
    let so = c.parts.invariant.so text m is gives in
    let at = gives_part so (next_part so c.add_next.new.self (ahead c.add_next.new.reader)
    (g.L.Feed.remaining c.add_next.new.feed) c.in-Ok-Some.told
    (rw c.in-Ok-Some.field-0-is at c.in-Ok-Some.ensures.joined)) in
    says_unread so c.in_err-verdict.field-0.0 _ _ _ _ c.from_residual.ensures.1 (c.in_err-verdict.ensures.verdict m at)
    (c.in_err-verdict.ensures.counted m at) c.in-Ok-Some.ensures.count c.verdict_on.ensures.opens

pub returns-in_err-write_told-clause-compared : goal.returns-in_err-write_told-clause-compared
returns-in_err-write_told-clause-compared g c = λ text m is gives.
    let so = c.parts.invariant.so text m is gives in
    let np = next_part so c.add_next.new.self (ahead c.add_next.new.reader) (g.L.Feed.remaining c.add_next.new.feed)
    c.in-Ok-Some.told (rw c.in-Ok-Some.field-0-is at c.in-Ok-Some.ensures.joined) in
    let at = gives_part so np in
    says_unwritten so np c.takes_next.new.self c.takes_next.ensures.others _ c.in-Ok-Some.ensures.count
    (grind (arith, nat_tests, c.takes_next.ensures.taken, c.if-takes_next.true)) _ _ c.verdict_on.ensures.opens
    c.in_ok-verdict.verdict (c.in_ok-verdict.ensures.verdict m at) (c.in_ok-verdict.ensures.counted m at) _ _ _
    c.from_residual-in_err-write_told.ensures.1 refl c.in_err-write_told.ensures

pub parts-preserved-then-takes_next : goal.parts-preserved-then-takes_next
parts-preserved-then-takes_next g c =
    let size = c.parts.invariant.size in
    let auto = c.verdict_on.auto.run in
    let most = c.max-status.ensures in
    let code = c.status_of.ensures in
    let raised : c.max-status.result ≡ max c.parts.status (status_of c.in_ok-verdict.verdict)
    = grind (arith, common_steps, most, code) in
    record {
      so = λ text m is gives.
          let so = c.parts.invariant.so text m is gives in
          let np = next_part so c.add_next.new.self (ahead c.add_next.new.reader)
          (g.L.Feed.remaining c.add_next.new.feed) c.in-Ok-Some.told
          (rw c.in-Ok-Some.field-0-is at c.in-Ok-Some.ensures.joined) in
          let at = gives_part so np in
          so_more so np c.takes_next.new.self c.takes_next.ensures.others _ c.in-Ok-Some.ensures.count
          (grind (arith, nat_tests, c.takes_next.ensures.taken, c.if-takes_next.true)) _ _ c.verdict_on.ensures.opens
          c.in_ok-verdict.verdict (c.in_ok-verdict.ensures.verdict m at) (c.in_ok-verdict.ensures.counted m at) _
          (λ i. g.P.Places.gives c.verdict_on.new.places i c.args.file.name.now (Some m)) _ raised
          (grind (arith, nat_tests, c.takes_next.ensures.waiting, c.if-takes_next.true))
          (c.in_ok-verdict.ensures.left m at) c.in_ok-write_told.ensures;
      same = c.verdict_on.ensures.same ∙ c.parts.invariant.same;
      size = omega (arith, size, auto);
    }

pub parts-preserved : goal.parts-preserved
parts-preserved g c = record {
  so = λ text m is gives.
      let so = c.parts.invariant.so text m is gives in
      so_over so (next_part so c.add_next.new.self (ahead c.add_next.new.reader)
      (g.L.Feed.remaining c.add_next.new.feed) c.in-Ok-Some.told
      (rw c.in-Ok-Some.field-0-is at c.in-Ok-Some.ensures.joined)) c.takes_next.new.self c.takes_next.ensures.others _
      c.in-Ok-Some.ensures.count g.P.Places.is_anywhere c.requires.share
      (λ a b. g.met.P.Places.moves c.parts.places a b c.args.file.name.now (Some m)) c.args.file.within
      (λ none. grind (arith, nat_tests, c.takes_next.ensures.taken, c.if-takes_next.false))
      (grind (arith, nat_tests, c.takes_next.ensures.taken, c.takes_next.ensures.waiting, c.if-takes_next.false));
  same = c.parts.invariant.same;
  size = c.parts.invariant.size;
}

pub returns-clause-compared : goal.returns-clause-compared
returns-clause-compared g c = λ text m is gives.
    says_end (c.parts.invariant.so text m is gives) c.add_next.new.self (ahead c.add_next.new.reader)
    (g.L.Feed.remaining c.add_next.new.feed) c.count.result _ _ _ c.args.file.name _ refl
    (rw c.in-Ok-None.field-0-is at c.in-Ok-None.ensures.joined) c.count.ensures c.in-Ok-None.ensures.count
    c.end_at.ensures.opens (c.end_at.ensures.end (Some m))
