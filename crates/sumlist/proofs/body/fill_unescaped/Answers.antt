use Rattle.sumlist.proofs.Common.{◌≡◌, ◌<◌, ◌++◌, ◌∷◌, ◌∙◌, List, None, Option, Some, ap, arith, length, length-append}
use Rattle.sumlist.proofs.Common.{length-take-le, onto, sym, take, ℕ}
use Rattle.std.specs.Prelude.{option_map}
use Rattle.sumlist.proofs.Names.{front_more}
use Rattle.sumlist.proofs.body.fill_unescaped.Goals as goal

-- a name that goes on behind a front is longer
longer : (front name : List ℕ) (c : ℕ) (o : Option (List ℕ))
    → option_map (λ tail. front ++ tail) (onto (Some c) o) ≡ Some name → length front < length name
longer front name c None e = absurd (cc)
longer front name c (Some tail) e =
    let same : front ++ c ∷ tail ≡ name = cc in omega (arith, simp length-append at (ap length same))

pub returns-then-len-out : goal.returns-then-len-out
returns-then-len-out c = λ name e.
    let next = rw c.unwrap-byte.ensures at c.next_byte.ensures in
    let read = rw next.name at c.loop-rest.invariant.read in
    let long = longer (take c.loop-rest.len c.loop-rest.out) name c.unwrap-byte.result.0 _ (sym read ∙ e) in
    let all = length-take-le c.loop-rest.len c.loop-rest.out c.loop-rest.invariant.within in
    omega (arith, long, all)

pub loop-rest-preserved : goal.loop-rest-preserved
loop-rest-preserved c =
    let next = rw c.unwrap-byte.ensures at c.next_byte.ensures in
    record {
      read = c.loop-rest.invariant.read ∙ rw (next.name, c.put_byte.ensures) (front_more _ _ _);
      within = omega arith;
    }
