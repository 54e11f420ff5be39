-- Lists that are checked, one after another.
use Rattle.std.proofs.lemmas.Grind.{common_steps}
use Rattle.std.proofs.Common.{◌≡◌, ◌≤◌, ◌+◌, ◌∙◌, ℕ, List, [], ◌∷◌, ◌++◌, Option, Some, None, Bool, true, false, IfSome}
use Rattle.std.proofs.Common.{Result, Ok, Err, sym, ap, subst, arith, length, refl, if◌then◌else◌, ◌==◌, append_assoc}
use Rattle.std.proofs.Common.{append-nil, nat_lt}
use Rattle.std.proofs.lemmas.List.Sums.{sum_by-append, sum_by-cons}
use Rattle.std.proofs.lemmas.Option.{IfSome_then}
use Rattle.std.specs.Prelude.{OnOk}
use Rattle.std.specs.List.{slice_split, onto_first, sum_by}
use Rattle.hashes.specs.declared.share.Share.{Share}
use Rattle.request.specs.CommandLine.{Text}
use Rattle.source.specs.Written.{Shown}
use Rattle.sumlist.specs.Lines.{lines, without_empty_last}
use Rattle.sumlist.specs.Report.{Files, Meaning}
use Rattle.sumlist.specs.Shared.{every}
use Rattle.task.specs.Tasks.{these}
use Rattle.task.specs.declared.tasks.Reporting.{Reporting}
use Rattle.command.specs.Checking.{ListsRun}
use Rattle.command.specs.Lines.{is_input}
use Rattle.command.specs.Run.{LeftBy, TellsAll}
use Rattle.command.specs.inside.Items.{DoesWalk, Once}
use Rattle.command.specs.inside.Reported.{KeepsLists, OpensLists, PrintsReport, checked_of, checked_state, opens_in}
use Rattle.command.specs.inside.Seen.{DoesRun, IfTold, OpensAtMost, Seen, CountedOf}
use Rattle.command.specs.declared.fault.Fault.{Fault}
use Rattle.command.proofs.Given.{opens_some}
use Rattle.command.proofs.One.{on_ok, once_so}
use Rattle.command.proofs.Reading.{told_at, told_where}
use Rattle.command.proofs.Turns.{every-all}

-- ---- what is opened

fewer : (parts : List (List ℕ)) (b : Bool) (c : ℕ) → length (without_empty_last parts)
    ≤ length (without_empty_last (if b then [] ∷ parts else onto_first c parts))
fewer parts b c = grind (arith, common_steps)

-- the end of a list has no more lines than the list
fewer_lines : (front left : List ℕ) → length (lines left) ≤ length (lines (front ++ left))
fewer_lines [] left = omega arith
fewer_lines (c ∷ front) left =
    omega (arith, fewer (slice_split (λ b. b == 10) (front ++ left)) (c == 10) c, fewer_lines front left)

fewer_opens : (files : Files) (name : Text) (front left : List ℕ)
    → opens_in left files name ≤ opens_in (front ++ left) files name
fewer_opens files name front left = grind (arith, common_steps, fewer_lines)

fewer_sum : (files : Files) (names : List Text) (front left : List ℕ)
    → sum_by (opens_in left files) names ≤ sum_by (opens_in (front ++ left) files) names
fewer_sum files [] front left = omega arith
fewer_sum files (name ∷ names) front left = omega (
  arith,
  sum_by-cons (opens_in left files) name names,
  sum_by-cons (opens_in (front ++ left) files) name names,
  fewer_opens files name front left,
  fewer_sum files names front left,
)

pub lists_none : (bytes : Option (List ℕ)) (files : Option Files) (opens : ℕ)
    → KeepsLists [] bytes bytes files files opens opens
lists_none bytes files opens = grind (arith, common_steps)

pub lists_both : (x y : List Text) (bytes later last : Option (List ℕ)) (files now then_ : Option Files) (i j k : ℕ)
    → KeepsLists x bytes later files now i j → KeepsLists y later last now then_ j k
    → KeepsLists (x ++ y) bytes last files then_ i k
lists_both x y None later last files now then_ i j k p q = (q.0 ∙ p.0, tt)
lists_both x y (Some bytes) later last None now then_ i j k p q = (q.0 ∙ p.0, tt)
lists_both x y (Some bytes) later last (Some files) now then_ i j k p q = (q.0 ∙ p.0, on p.1 (rw (p.1.is, p.0) at q.1))
  where
    on : (first : OpensLists x bytes files later i j) → OpensLists y first.left files last j k
        → OpensLists (x ++ y) bytes files last i k
    on first next = record {
      front = first.front ++ next.front;
      left = next.left;
      is = next.is;
      split = first.split ∙ ap (λ t. first.front ++ t) next.split ∙ sym (append_assoc first.front next.front next.left);
      most =
          let most = first.most in
          let more = next.most in
          let all = sum_by-append (opens_in bytes files) x y in
          let less : sum_by (opens_in first.left files) y ≤ sum_by (opens_in bytes files) y
          = subst (λ b. sum_by (opens_in first.left files) y ≤ sum_by (opens_in b files) y) (sym first.split)
          (fewer_sum files y first.front first.left) in
          omega (arith, most, more, all, less);
    }

-- what is left of standard input is the end of it
rest_of : (b : Bool) (e : Result ℕ (ℕ × Text)) (bytes left : List ℕ) → LeftBy b e bytes left
    → (front : List ℕ) × (bytes ≡ front ++ left)
rest_of false e bytes left leaves = ([], sym leaves)
rest_of true (Ok s) bytes left leaves = (bytes, rw leaves (sym (append-nil bytes)))
rest_of true (Err t) bytes left leaves = leaves

module _ (reporting : Reporting) (m : Meaning) (list : Option Text) (name : Text) (share behind : Share)
    (r : Result ℕ Fault) (old new : Seen) (err_old err_new : Shown) (same : new.files ≡ old.files)
    (printed : IfTold old (λ bytes files. PrintsReport reporting m list name share behind bytes files r old new err_old
    err_new)) where
  pub list_kept : IfTold old (λ bytes files. OpensAtMost (opens_in bytes files name) old new)
      → KeepsLists (name ∷ []) old.bytes new.bytes old.files new.files old.opens new.opens
  list_kept opened = (
    same,
    told_where old (λ bytes files at of.
        let o = told_at old bytes files _ at of printed in
        let rest = rest_of (is_input name) o.plain.ending bytes o.is_one.1.0 o.is_one.1.2 in
        let most = told_at old bytes files _ at of opened in
        let one = sum_by-cons (opens_in bytes files) name [] in record {
          front = rest.0;
          left = o.is_one.1.0;
          is = o.is_one.1.1;
          split = rest.1;
          most = omega (arith, most, one);
        }),
  )

  -- an item of lists that are checked
  pub list_printed : (lists : List Text) (others : ℕ) → others ≡ 0
      → list ≡ (if nat_lt 1 (length lists) then Some name else None)
      → IfSome (checked_state share old.bytes old.files) (λ x. (i : Text) → i ≡ name → Once (λ run. (y : Share × List ℕ)
      × (checked_of m reporting old.files lists).step x i run y
      × OnOk r (checked_state behind new.bytes new.files ≡ Some y)) true
      (nat_lt 0 others) (CountedOf old new) r old.out new.out
      err_old err_new)
  list_printed lists others alone called = on old.bytes refl old.files refl
    where
      on : (bytes : Option (List ℕ)) → old.bytes ≡ bytes → (files : Option Files) → old.files ≡ files
          → IfSome (checked_state share bytes files) (λ x. (i : Text) → i ≡ name → Once (λ run. (y : Share × List ℕ)
          × (checked_of m reporting files lists).step x i run y
          × OnOk r (checked_state behind new.bytes new.files ≡ Some y)) true
          (nat_lt 0 others) (CountedOf old new) r old.out new.out
          err_old err_new)
      on None at files of = tt
      on (Some bytes) at None of = tt
      on (Some bytes) at (Some files) of = λ i is. rw (is, alone) (once_so (λ run p.
          ((behind, p.1.0), (rw (← called) p.0, p.1.2), on_ok r (rw (same, of, p.1.1) refl)))
          (told_at old bytes files _ at of printed))

-- all of them
pub lists_walked : (reporting : Reporting) (m : Meaning) (share whole : Share) (lists : List Text) (r : Result ℕ Fault)
    (old new : Seen) (err_old err_new : Shown) → whole.others ≡ 0 → whole.waiting ≡ 0
    → IfSome (checked_state share old.bytes old.files) (λ x. DoesWalk true
    (checked_of m reporting old.files lists) whole x
    lists (CountedOf old new) r old.out new.out
    err_old err_new) → DoesRun (λ bytes files. ListsRun m reporting (these share) files lists bytes)
    (λ notes. TellsAll err_old err_new notes) r old new
lists_walked reporting m share whole lists r old new err_old err_new alone first walked = grind
    (arith, common_steps, told_where, every-all)

pub lists_opened : (lists : List Text) (whole : Share) (bytes later : Option (List ℕ))
    (files now : Option Files) (i j : ℕ)
    → whole.others ≡ 0 → whole.waiting ≡ 0 → (done : List Text) × (rest : List Text)
    × (every whole.others whole.waiting lists ≡ done ++ rest) × KeepsLists done bytes later files now i j
    → IfSome bytes (λ bytes. IfSome files (λ files. j ≤ i + sum_by (opens_in bytes files) lists))
lists_opened lists whole bytes later files now i j alone first h = grind
    (arith, common_steps, IfSome_then, opens_some, every-all)
