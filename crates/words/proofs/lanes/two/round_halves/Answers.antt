use Rattle.std.proofs.Common.{refl, arith, ◌∷◌, []}
use Rattle.words.specs.inside.Halves.{half16}
use Rattle.words.proofs.Halves.{rounds_of_halves}
use Rattle.words.proofs.LaneLemmas.{below_two}
use Rattle.words.proofs.lanes.two.round_halves.Goals as goal

pub returns : goal.returns
unfolding half16
returns c =
    let p = c.mix.result in
    let q = c.mix-2.result in
    let t = c.turned_by_3.result ∷ p.1 ∷ c.turned_by_1.result ∷ c.turned_by_2.result ∷ [] in
    let mixed = rounds_of_halves c.args.rows c.args.m (p.0 ∷ p.1 ∷ p.2 ∷ p.3 ∷ []) t (q.0 ∷ q.1 ∷ q.2 ∷ q.3 ∷ [])
    c.mix.ensures c.mix-2.ensures
    (rw (c.turned_by_3.ensures, c.turned_by_1.ensures, c.turned_by_2.ensures) (below_two _ refl refl)) in
    rw (c.turned_by_1-2.ensures, c.turned_by_3-2.ensures, c.turned_by_2-2.ensures)
    (below_two _ (mixed 0 (omega arith)) (mixed 1 (omega arith)))
