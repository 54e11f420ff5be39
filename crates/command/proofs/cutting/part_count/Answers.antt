use Rattle.std.proofs.lemmas.Grind.{common_steps}
use Rattle.std.proofs.Common.{ℕ, ◌+◌, ◌-◌, ◌*◌, ◌/◌, ◌^◌, ◌<◌, ◌∙◌, refl, arith}
use Rattle.std.proofs.Math.Nat.{div-le_self}
use Rattle.command.proofs.Starting.{before_end, chunks_fit, counting_fewer, counting_first, counting_more, opens_first}
use Rattle.command.proofs.Starting.{opens_next}
use Rattle.command.proofs.cutting.part_count.Goals as goal

pub halves-init : goal.halves-init
halves-init g c =
    let small = div-le_self (2 ^ 54 - 1) c.args.chunks in
    let left = opens_first ((2 ^ 54 - 1) / c.args.chunks + 1 - 0) (omega (arith, small)) in
    record {
      ordered = omega arith;
      few = omega (arith, small);
      within = λ i less. before_end c.args.chunks i less;
      kept = refl;
      counting = counting_first c.args.chunks c.args.name.now _ _ _ c.requires.0 refl;
      opens = (left.0, left.1, omega (arith, left.2));
    }

pub halves-preserved-then-branch : goal.halves-preserved-then-branch
halves-preserved-then-branch g c =
    let before = c.halves.invariant in
    let least : ℕ = c.halves.least in
    let most : ℕ = c.halves.most in
    let middle : ℕ = least + (most - least) / 2 in
    let told = c.in_ok-has_byte in
    let one = c.has_byte.ensures.opens in
    let some = before.opens.2 in
    let place : c.args.chunks * middle < 2 ^ 54 = before.within middle (omega arith) in
    let left = opens_next (most - least) (most - (middle + 1)) before.opens.0 before.opens.1 (omega arith) (omega
    arith) in
    record {
      ordered = omega arith;
      few = before.few;
      within = before.within;
      kept = c.has_byte.ensures.kept ∙ before.kept;
      counting = counting_more c.args.chunks c.args.name.now _ _ least most middle _ _ _ told.field-0 c.requires.0 place
          c.if-branch.true before.kept (told.ensures.byte, told.ensures.counted) before.counting;
      opens = (left.0, left.1, omega (arith, one, some, left.2));
    }

pub halves-preserved : goal.halves-preserved
halves-preserved g c = grind (arith, common_steps, opens_next, counting_fewer)

pub returns-clause-fits : goal.returns-clause-fits
returns-clause-fits g c = grind (arith, common_steps, chunks_fit)
