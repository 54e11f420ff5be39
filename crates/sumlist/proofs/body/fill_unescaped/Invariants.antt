use Rattle.sumlist.proofs.Common.{◌≡◌, ◌≤◌, ◌++◌, length, name_of, take, true}
use Rattle.std.specs.Prelude.{option_map}
use Rattle.sumlist.proofs.body.fill_unescaped.Given as goal

abbrev pub invariant-loop-rest : goal.invariant-loop-rest
invariant-loop-rest l = record {
  read : name_of true l.body ≡ option_map (λ name. take l.len l.out ++ name) (name_of true l.rest);
  within : l.len ≤ length l.out;
}

abbrev pub decreases-loop-rest : goal.decreases-loop-rest
decreases-loop-rest l = length l.rest
