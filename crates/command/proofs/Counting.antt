-- Failures that are counted one after another.
use Rattle.std.proofs.lemmas.Grind.{common_steps}
use Rattle.std.proofs.Common.{◌≡◌, ◌∙◌, ◌+◌, ◌++◌, ℕ, List, [], Option, Some, IfSome, Bool, true, false, arith, refl}
use Rattle.std.proofs.Common.{ap₂, replicate}
use Rattle.source.specs.Counts.{count_after}
use Rattle.std.proofs.lemmas.List.Sums.{sum_by-append}
use Rattle.command.specs.Checking.{Beside}
use Rattle.command.specs.inside.Hashed.{ListCounted}
use Rattle.command.specs.inside.Told.{ReportCounted}
use Rattle.command.specs.inside.Troubles.{Failures, counts, failures_from, no_failures, plus}
use Rattle.command.proofs.Refused.{counts-replicate, pair}

pub plus-none : (f : Failures) (from_input : Bool) → f ≡ plus f (failures_from from_input 0)
plus-none f from_input = grind (arith, common_steps, pair)

pub counts-append : (xs ys : List Bool) → counts (xs ++ ys) ≡ plus (counts xs) (counts ys)
counts-append xs ys = grind (arith, common_steps, pair, sum_by-append)

pub list_counted_more : (from_input : Bool) (f g : List Bool) (i j k u v w : ℕ) → ListCounted from_input f i j u v
    → ListCounted from_input g j k v w → ListCounted from_input (f ++ g) i k u w
list_counted_more from_input f g i j k u v w (m, n, is, a, b) (o, p, are, c, d) = (
  m + o,
  n + p,
  counts-append f g ∙ ap₂ plus is are ∙ joined from_input,
  omega (arith, a, c),
  omega (arith, b, d),
)
  where
    joined : (b : Bool) → plus (plus (failures_from false n) (failures_from b m))
        (plus (failures_from false p) (failures_from b o)) ≡ plus (failures_from false (n + p))
        (failures_from b (m + o))
    joined true = pair (omega arith) (omega arith)
    joined false = pair (omega arith) (omega arith)

-- failed reads of the list, or of files
pub list_counted : (from_input : Bool) (k i j u v : ℕ) → j ≡ count_after i k → v ≡ u
    → ListCounted from_input (replicate k from_input) i j u v
list_counted from_input k i j u v read same = grind (arith, common_steps, counts-replicate, pair)

pub files_counted : (from_input : Bool) (k i j u v : ℕ) → j ≡ i → v ≡ count_after u k
    → ListCounted from_input (replicate k false) i j u v
files_counted from_input k i j u v same read = grind (arith, common_steps, counts-replicate, plus-none)

-- the failures of a list and those of its report, where the list is standard input, or a file that was closed
pub input_counted : (f : List Bool) (i j u v x y : ℕ) → v ≡ u → ListCounted true f i j x y → ReportCounted f i j u v x y
input_counted f i j u v x y same (k, n, are, read, report) =
    (failures_from true k, n, are ∙ pair (omega arith) (omega arith), (read, omega (arith, same)), report)

pub file_counted : (f : List Bool) (i j g h u v w x y : ℕ) → h ≡ g → v ≡ count_after u 0 → i ≡ 0 → w ≡ count_after v j
    → ListCounted false f i j x y → ReportCounted f g h u w x y
file_counted f i j g h u v w x y same opened fresh closed (k, n, are, read, report) = (
  failures_from false k,
  n,
  are ∙ pair (omega arith) (omega arith),
  (omega (arith, same), omega (arith, opened, fresh, closed, read)),
  report,
)

pub report_counted_more : (f g : List Bool) (i j k u v w x y z : ℕ) → ReportCounted f i j u v x y
    → ReportCounted g j k v w y z → ReportCounted (f ++ g) i k u w x z
report_counted_more f g i j k u v w x y z (own, m, is, (a, b), c) (other, n, are, (d, e), h) = (
  plus own other,
  m + n,
  counts-append f g ∙ ap₂ plus is are ∙ pair (omega arith) (omega arith),
  (omega (arith, a, d), omega (arith, b, e)),
  omega (arith, c, h),
)

report_counted_none : (i u x : ℕ) → ReportCounted [] i i u u x x
report_counted_none i u x = (no_failures, 0, refl, (omega arith, omega arith), omega arith)

pub report_same : (o : Option Beside) (i u x : ℕ) → IfSome o (λ z. (o ≡ Some z) × ReportCounted [] i i u u x x)
report_same o i u x = grind (arith, common_steps, report_counted_none)
