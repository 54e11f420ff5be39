use Rattle.std.proofs.Common.{◌≡◌, ◌+◌, ◌-◌, [], ◌∙◌, ap, arith, length, refl, slice_index_or, sym, take}
use Rattle.std.specs.Simd.Lanes.{fold_l}
use Rattle.std.proofs.lemmas.List.{take_all}
use Rattle.sha2.specs.Sha256.{compress}
use Rattle.sha_blocks.proofs.Folds.{fold_more}
use Rattle.sha_blocks.proofs.blocks.compress_runs_interleaved.Goals as goal

pub runs-init : goal.runs-init
runs-init c = record {
  words = omega arith;
  made = c.put_schedules.ensures.length;
  room = omega arith;
  value = refl;
  keyed = c.put_schedules.ensures.keyed;
}

pub runs-preserved : goal.runs-preserved
runs-preserved c =
    let k = c.runs.k in
    let runs = c.args.runs.now in
    let at = c.runs.invariant in
    let next = c.compress_run_making_next.ensures in
    let now : k + 1 - 1 ≡ k = omega arith in
    record {
      words = next.words;
      made = next.length;
      room = at.made;
      value = next.value (slice_index_or runs (k - 1) []) at.keyed
          ∙ ap (λ h. fold_l compress h (slice_index_or runs (k - 1) [])) at.value
          ∙ sym (fold_more (λ v run. fold_l compress v run) c.args.h.now runs (k - 1) [] (omega arith))
          ∙ ap (λ n. fold_l (λ v run. fold_l compress v run) c.args.h.now (take n runs)) (omega arith);
      keyed = rw now next.next;
    }

pub returns : goal.returns
returns c =
    let runs = c.args.runs.now in
    let n = length runs - 1 in
    let last : c.runs.k - 1 ≡ n = omega arith in
    c.compress_run.ensures (slice_index_or runs n []) (rw last at c.runs.invariant.keyed)
    ∙ ap (λ h. fold_l compress h (slice_index_or runs n [])) (rw last at c.runs.invariant.value)
    ∙ sym (fold_more (λ v run. fold_l compress v run) c.args.h.now runs n [] (omega arith))
    ∙ ap (fold_l (λ v run. fold_l compress v run) c.args.h.now) (take_all (n + 1) runs (omega arith))
