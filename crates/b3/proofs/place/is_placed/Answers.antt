use Rattle.std.proofs.Common.{◌≡◌, ℕ, ◌+◌, ◌-◌, ◌/◌, ◌%◌, arith, eqb-true, eq-eqb}
use Rattle.b3.proofs.Powers.{least_from, least_power_unique}
use Rattle.b3.proofs.place.is_placed.Goals as goal
use Rattle.b3.proofs.place.is_placed.Goals.{else-len-eq0-via-then-len-eq0+else-first_chunk-ne0}
use Rattle.b3.proofs.place.is_placed.Goals.{else-len-eq0-via-else-len-eq0}

pub returns : goal.returns
returns c =
    let count : c.saturating_sub.result / 1024 + 1 ≡ (c.args.len - 1) / 1024 + 1 = omega arith in
    let p : ℕ = c.next_power_of_two.result in
    let power = c.next_power_of_two.ensures in
    let least = rw count at (least_from p _ power.power power.lower_bound power.upper_bound (omega arith)) in (
      λ yes.
          let even : c.args.first_chunk % p ≡ 0 = eqb-true _ 0 yes in (
            λ none. elim c.else-len-eq0.branch [
              | else-len-eq0-via-then-len-eq0+else-first_chunk-ne0 w ↦ omega arith
              | else-len-eq0-via-else-len-eq0 w ↦ absurd (omega arith)
            ],
            omega arith,
            λ q is.
                let same : p ≡ q = least_power_unique p q _ least is in
                rw same at even,
          ),
      λ placed. eq-eqb (c.args.first_chunk % p) 0 (placed.2 p least),
    )
