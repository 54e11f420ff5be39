use Rattle.std.proofs.Common.{ℕ, ◌-◌, List, length, sym, subst, ◌∙◌, arith}
use Rattle.std.specs.Io.KnownBytes.{Consumes}
use Rattle.std.proofs.KnownBytes.{Consumes-trans}
use Rattle.source.specs.inside.Front.{front_remaining}
use Rattle.source.proofs.Fronting.{Passes-trans}
use Rattle.source.proofs.Parting.{filled_more}
use Rattle.source.proofs.parts.fill.Goals as goal

pub reads-preserved : goal.reads-preserved
reads-preserved g c =
    let run : List ℕ = c.reads.run in
    let n : ℕ = c.reads.n in
    let before = c.reads.invariant in
    let read = c.in-Ok.ensures.read in
    let remaining = front_remaining g.F.Feed.remaining in
    record {
      given = subst (λ (l : List ℕ). Consumes (remaining c.args.feed.now) (remaining c.read.new.self) l)
          (sym (filled_more run c.read.new.buf n (length run - n) c.in-Ok.count before.within read.bound))
          (Consumes-trans _ _ _ _ _ before.given read.given);
      within = omega (arith, read.bound);
      length = omega arith;
      passed = Passes-trans _ _ _ _ before.passed c.read.ensures.passed;
      count = read.counted ∙ before.count;
    }

pub returns-in-Err-clause-passed : goal.returns-in-Err-clause-passed
returns-in-Err-clause-passed g c = Passes-trans _ _ _ _ c.reads.invariant.passed c.read.ensures.passed
