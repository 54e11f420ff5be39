use Rattle.std.proofs.Common.{◌≡◌, ℕ, ◌+◌, ◌-◌, ◌*◌, ◌/◌, List, [], length, take, drop, sym, ap, ◌∙◌, inl, inr, arith}
use Rattle.std.proofs.Common.{length-drop, length-take-le}
use Rattle.std.proofs.lemmas.Bool.{cases_lt}
use Rattle.std.proofs.lemmas.List.{take_all, get_or-set_same, get_or-set_other}
use Rattle.b3.specs.Node.{cv}
use Rattle.b3.specs.Tree.{tree}
use Rattle.b3.specs.inside.Runs.{run_cv}
use Rattle.b3.proofs.Runs.{run_part}
use Rattle.b3.proofs.tree.group_values.Goals as goal

pub returns-then-bytes-eq0 : goal.returns-then-bytes-eq0
returns-then-bytes-eq0 c = λ i h.
    let bytes : List ℕ = c.args.bytes.now in
    let last : ℕ = length bytes / 1024 in
    let size : length (take (1024 * last) bytes) ≡ 1024 * last = length-take-le (1024 * last) bytes (omega arith) in
    c.chunk_values.ensures.values i (omega (arith, size, h)) (omega (arith, size, h))
    ∙ run_part c.args.parameters.now.key c.args.parameters.now.flags c.args.first last bytes 0 i (omega arith)
    (omega (arith, h))

pub returns : goal.returns
unfolding run_cv
returns c = λ i h.
    let key = c.args.parameters.now.key in
    let flags = c.args.parameters.now.flags in
    let bytes : List ℕ = c.args.bytes.now in
    let last : ℕ = length bytes / 1024 in
    let whole : length (take (1024 * last) bytes) ≡ 1024 * last = length-take-le (1024 * last) bytes (omega arith) in
    let left : List ℕ = drop (1024 * last) bytes in
    let size : length left ≡ length bytes - 1024 * last = length-drop (1024 * last) bytes in
    elim (cases_lt i last) [
      | inl below ↦
          get_or-set_other c.chunk_values.new.values last i c.chaining_value.result [] (λ e. absurd (omega (arith, e)))
          ∙ c.chunk_values.ensures.values i (omega (arith, whole, below)) (omega (arith, whole, below))
          ∙ run_part key flags c.args.first last bytes 0 i (omega arith) (omega (arith, below))
      | inr above ↦
          let here : i ≡ last = omega (arith, above, h) in
          rw here (get_or-set_same c.chunk_values.new.values last c.chaining_value.result [] (omega arith)
          ∙ c.chaining_value.ensures ∙ ap cv c.chunk_over-rest.ensures
          ∙ ap (λ (x : List ℕ). cv (tree key flags (c.args.first + last) x))
          (take_all (length bytes - 1024 * last) left (omega (arith, size))
          ∙ sym (take_all 1024 left (omega (arith, size)))))
    ]
