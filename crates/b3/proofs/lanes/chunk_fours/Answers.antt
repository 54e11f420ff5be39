use Rattle.std.proofs.Common.{◌≡◌, ℕ, ◌+◌, ◌*◌, ◌-◌, ◌≤◌, List, length, take, drop, ap, ◌∙◌, arith, length-drop}
use Rattle.std.proofs.lemmas.List.{take_rest}
use Rattle.words.specs.inside.Lanes.{lane8}
use Rattle.words.proofs.LaneLemmas.{by_fours}
use Rattle.b3.specs.inside.Runs.{run_cv, value_before_last}
use Rattle.b3.proofs.Runs.{run_shift, before_shift}
use Rattle.b3.proofs.lanes.chunk_fours.Goals as goal

pub returns-clause-values : goal.returns-clause-values
returns-clause-values c =
    let bytes : List ℕ = c.args.bytes.now in
    let key = c.args.parameters.now.key in
    let flags = c.args.parameters.now.flags in
    let rest : take (length bytes - 4096) (drop 4096 bytes) ≡ drop 4096 bytes = take_rest bytes 4096 in
    by_fours (λ i. 1024 * i + 1024 ≤ length bytes
    → lane8 i c.joined_lanes-2.result ≡ run_cv key flags c.args.first bytes 0 i)
    (λ i h w. c.joined_lanes-2.ensures.left i h ∙ c.few_chunk_lanes-left.ensures.values i h w)
    (λ i h w. c.joined_lanes-2.ensures.right i h
    ∙ c.few_chunk_lanes-right.ensures.values i h (rw rest (omega (arith, length-drop 4096 bytes)))
    ∙ ap (λ (x : List ℕ). run_cv key flags (c.args.first + 4) x 0 i) rest
    ∙ run_shift key flags c.args.first 4 bytes 0 i)

pub returns-clause-before : goal.returns-clause-before
returns-clause-before c =
    let bytes : List ℕ = c.args.bytes.now in
    let key = c.args.parameters.now.key in
    let flags = c.args.parameters.now.flags in
    let rest : take (length bytes - 4096) (drop 4096 bytes) ≡ drop 4096 bytes = take_rest bytes 4096 in
    by_fours (λ i. 1024 * i + 1024 ≤ length bytes
    → lane8 i c.joined_lanes.result ≡ value_before_last key flags c.args.first bytes i)
    (λ i h w. c.joined_lanes.ensures.left i h ∙ c.few_chunk_lanes-left.ensures.before i h w)
    (λ i h w. c.joined_lanes.ensures.right i h
    ∙ c.few_chunk_lanes-right.ensures.before i h (rw rest (omega (arith, length-drop 4096 bytes)))
    ∙ ap (λ (x : List ℕ). value_before_last key flags (c.args.first + 4) x i) rest
    ∙ before_shift key flags c.args.first 4 bytes i)
