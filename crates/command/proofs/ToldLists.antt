-- The run of `check` with `--report`: lists are read beside their report.
use Rattle.std.proofs.lemmas.Grind.{common_steps}
use Rattle.std.proofs.Common.{◌≡◌, ◌∙◌, ℕ, ◌+◌, ◌-◌, ◌^◌, ◌<◌, ◌≤◌, List, [], ◌∷◌, ◌++◌, length, length-append, Option}
use Rattle.std.proofs.Common.{Some, None, Bool, true, false, Result, Ok, Err, IfSome, refl, ap, ◌⊎◌, arith, inl, inr}
use Rattle.std.proofs.lemmas.Bool.Decides.{nat_tests}
use Rattle.std.specs.Prelude.{◌==◌, IsErrAnd, IsErrOf, IsSomeAnd, OnOk, fold, if◌then◌else◌, nat_le, nat_lt}
use Rattle.std.specs.Borrow.{Bor}
use Rattle.std.specs.Io.KnownBytes.{Consumes, IsAtEnd}
use Rattle.std.proofs.KnownBytes.{Appends-nil}
use Rattle.request.specs.CommandLine.{Text}
use Rattle.source.specs.Counts.{count_after}
use Rattle.source.specs.Written.{Shown}
use Rattle.sumlist.specs.Checked.{CountsOnly}
use Rattle.sumlist.specs.Escape.{escaped}
use Rattle.sumlist.specs.Report.{Files, Meaning, Outcome, foreign, malformed, report_from, skipped, summary_of, text}
use Rattle.sumlist.specs.Report.{told, verdict_text, with_line}
use Rattle.sumlist.specs.Tally.{is_clean}
use Rattle.sumlist.specs.declared.summary.Summary.{Summary}
use Rattle.sumlist.specs.declared.telling.TellFault.{TellFault}
use Rattle.sumlist.specs.declared.telling.TellFault.TheVariants as tell
use Rattle.sumlist.specs.declared.verdict.Verdict.{Verdict}
use Rattle.sumlist.specs.declared.verdict.Verdict.TheVariants as verdict
use Rattle.sumlist.specs.inside.Telling.{ListBeside}
use Rattle.task.specs.Tasks.{in_file}
use Rattle.task.specs.declared.tasks.Reporting.{Reporting}
use Rattle.command.specs.Checking.{Beside, ListsRun, ends_at, notes_of}
use Rattle.command.specs.Lines.{content_of, is_input, opens_of}
use Rattle.command.specs.Run.{Run, TellsAll, prints, stops}
use Rattle.command.specs.inside.Faults.{graded, of_tell, remarks}
use Rattle.command.specs.inside.Hashed.{ListCounted}
use Rattle.command.specs.inside.Reading.{Leaves}
use Rattle.command.specs.inside.Items.{Breaks, DoesWalk, Once}
use Rattle.hashes.specs.declared.share.Share.{Share}
use Rattle.command.specs.inside.Seen.{Does, Seen}
use Rattle.command.specs.inside.Troubles.{Counted, MayRefuse, counts, failed_reads, failures_from, cannot_read}
use Rattle.command.specs.inside.Troubles.{no_failures, other_line, plus, refusal, shown, too_long, trouble_of}
use Rattle.command.specs.declared.fault.Fault.{Fault}
use Rattle.command.specs.declared.fault.Fault.TheVariants.{CannotRead, OtherLine, OutOfMemory, TooLong}
use Rattle.command.proofs.One.{once_done, once_last}
use Rattle.command.proofs.Counting.{file_counted, files_counted, input_counted, list_counted, plus-none}
use Rattle.command.proofs.Listing.{long_list, refuse-few}
use Rattle.command.proofs.Given.{opens_some}
use Rattle.command.proofs.Turns.{every-all}
use Rattle.std.specs.List.{sum_by}
use Rattle.sumlist.specs.Shared.{every}
use Rattle.command.proofs.Refused.{not_both, refused_ends, Counted-none, Does-refused, Counted-as, Counted-refusal}
use Rattle.command.proofs.Refused.{counts-replicate, pair, refused_by, unread_by}
use Rattle.command.proofs.TakenParts.{unopened}
use Rattle.command.specs.inside.Told.{BesideRuns, HasRoom, IsTold, ReportCounted, ToldOver, by_report_of, ReportOf}
use Rattle.command.specs.inside.Told.{told_state}

-- ---- the lines of a report

verdict_some : (v : Verdict) → 1 ≤ length (verdict_text v)
verdict_some v = grind (arith, common_steps)

malformed_some : (title : Option Text) (k : ℕ) → 1 ≤ length (text title k malformed)
malformed_some title k = grind (arith, common_steps, length-append)

-- no line is empty
lines_some : (title : Option Text) (k : ℕ) (os : List Outcome) (s : Summary)
    → length os + s.skipped ≤ length (report_from title k os) + (fold with_line s os).skipped
unfolding report_from
lines_some title k [] s = omega arith
lines_some title k (skipped ∷ os) s =
    let rest = lines_some title (k + 1) os (with_line s skipped) in omega (arith, rest)
lines_some title k (malformed ∷ os) s =
    let rest = lines_some title (k + 1) os (with_line s malformed) in
    omega (arith, rest, malformed_some title k, length-append (text title k malformed) (report_from title (k + 1) os))
lines_some title k (foreign l ∷ os) s =
    let rest = lines_some title (k + 1) os (with_line s (foreign l)) in
    let same : text title k (foreign l) ≡ text title k malformed = foreign_as title in
    omega (
      arith,
      rest,
      malformed_some title k,
      ap length same,
      length-append (text title k (foreign l)) (report_from title (k + 1) os),
    )
  where
    foreign_as : (title : Option Text) → text title k (foreign l) ≡ text title k malformed
    foreign_as None = refl
    foreign_as (Some title) = refl
lines_some title k (told name v ∷ os) s =
    let rest = lines_some title (k + 1) os (with_line s (told name v)) in
    omega (
      arith,
      same v,
      rest,
      verdict_some v,
      length-append (text title k (told name v)) (report_from title (k + 1) os),
      length-append (escaped name) (verdict_text v),
    )
  where
    same : (v : Verdict) → (with_line s (told name v)).skipped ≡ s.skipped
    same verdict.Matches = refl
    same verdict.Differs = refl
    same verdict.Missing = refl
    same verdict.Unreadable = refl
    same verdict.TooLong = refl

lines_few : (title : Option Text) (os : List Outcome)
    → length os - (summary_of os).skipped ≤ length (report_from title 1 os)
unfolding summary_of
lines_few title os = let most = lines_some title 1 os (summary_of []) in omega (arith, most)

-- ---- one list that a feed gives

module _ (reporting : Reporting) (m : Meaning) (title : Option Text) (name report : Bor Text)
    (bytes left whole : List ℕ)
    (n next : ℕ) (rest : Option Text) (before after : Shown) (i j x y : ℕ) (room : HasRoom whole left n) where
  abbrev pub Fed : Result ℕ Fault → Type 0
  Fed r = IsTold (BesideRuns reporting m title name.now report.now (Some bytes) whole left n rest next) r before after
      (λ f. ListCounted (is_input name.now) f i j x y)

  -- a fault ended it
  stops_by : (f : Fault) (failures : List Bool) (is : BesideRuns reporting m title name.now report.now
      (Some bytes) whole
      left n rest next (record (stops (shown (trouble_of f))) { failures = failures })) → after ≡ before
      → ListCounted (is_input name.now) failures i j x y → Fed (Err f)
  stops_by f failures is quiet counted = grind (arith, common_steps, Does-refused)

  unread : (f : Fault) → MayRefuse (2 ^ 64 - 1) name.now (Some bytes) (trouble_of f) → after ≡ before
      → j ≡ count_after i (failed_reads (Some bytes) (trouble_of f)) → y ≡ x → Fed (Err f)
  unread f may quiet read same = stops_by f _ (inl (refused_by (2 ^ 64 - 1) (is_input name.now) name.now (Some bytes)
      (trouble_of f) may)) quiet (list_counted (is_input name.now) _ i j x y read same)

  unreported : (f : Fault) → MayRefuse (2 ^ 64 - 1) report.now (Some whole) (trouble_of f) → after ≡ before → j ≡ i
      → y ≡ count_after x (failed_reads (Some whole) (trouble_of f)) → Fed (Err f)
  unreported f may quiet same read = stops_by f _ (inr (inl (refused_by (2 ^ 64 - 1) false report.now (Some whole)
      (trouble_of f) may))) quiet (files_counted (is_input name.now) _ i j x y same read)

  fed : (answer : Result Summary TellFault) → ListBeside m title bytes left n next rest answer
      → CountsOnly tell.ListRead answer i j → CountsOnly tell.ReportRead answer x y
      → (answer ≡ Err tell.ListTooLong → 2 ^ 64 - 1 < length bytes)
      → TellsAll before after (remarks true reporting title name.now m (of_tell answer name report next))
      → Fed (graded (of_tell answer name report next))
  fed (Ok s) (os, front, end, cut, possible, behind, split, count, (none, same, rest_is)) reads more long
      said = record {
        run = record (prints [] (if is_clean s then 0 else 1)) { notes = notes_of reporting m title name.now s };
        is_run = inr (inr (os, front, end, cut, possible, behind, split, inl (none, rw same refl, rest_is, count)));
        does = λ out. record { ending = refl; out = (refl, Appends-nil out.contents); cut = λ e. cc };
        notes = said;
        counts = files_counted (is_input name.now) 0 i j x y (reads.1 (λ e. cc))
            (let same = more.1 (λ e. cc) in omega (arith, same));
      }
  fed (Err tell.ListRead) beside reads more long said =
      unread (CannotRead name) (inr (inl refl)) said (reads.0 refl) (more.1 (λ e. cc))
  fed (Err tell.ListTooLong) beside reads more long said = let none = reads.1 (λ e. cc) in
      unread (TooLong name) (inr (inr (refl, long refl))) said (omega (arith, none)) (more.1 (λ e. cc))
  fed (Err tell.OutOfMemory) beside reads more long said = let none = reads.1 (λ e. cc) in
      unread OutOfMemory (inl refl) said (omega (arith, none)) (more.1 (λ e. cc))
  fed (Err tell.ReportRead) beside reads more long said =
      unreported (CannotRead report) (inr (inl refl)) said (reads.1 (λ e. cc)) (more.0 refl)
  fed (Err tell.ReportTooLong) (os, front, end, cut, possible, behind, split, count, many) reads more long said =
      let none = more.1 (λ e. cc) in unreported (TooLong report) (inr (inr (refl, omega (arith, room, many)))) said
      (reads.1 (λ e. cc)) (omega (arith, none))
  fed (Err tell.OtherLine) (os, front, end, cut, possible, behind, split, count, (line, others, is, other))
      reads more long said = let none = more.1 (λ e. cc) in
      stops_by (OtherLine report next) [] (inr (inr (
        os,
        front,
        end,
        cut,
        possible,
        behind,
        split,
        inr (line, others, is, ap (λ k. ends_at report.now k) count, other),
      ))) said
      (files_counted (is_input name.now) 0 i j x y (reads.1 (λ e. cc)) (omega (arith, none)))

pub feed_told : (reporting : Reporting) (m : Meaning) (title : Option Text) (name report : Bor Text)
    (first now left rest : Option (List ℕ)) (n next : ℕ) (before after : Shown) (i j x y : ℕ)
    (answer : Result Summary TellFault)
    → IfSome first (λ bytes. IfSome left (λ text. ListBeside m title bytes text n next rest answer))
    → CountsOnly tell.ListRead answer i j → CountsOnly tell.ReportRead answer x y
    → IfSome first (λ _. (given : List ℕ) × Consumes first now given
    × (IsErrOf answer tell.ListTooLong → 2 ^ 64 - 1 < length given))
    → TellsAll before after (remarks true reporting title name.now m (of_tell answer name report next))
    → (bytes coming whole : List ℕ) → first ≡ Some bytes → left ≡ Some coming → (room : HasRoom whole coming n)
    → Fed reporting m title name report bytes coming whole n next rest before after i j x y room
    (graded (of_tell answer name report next))
feed_told reporting m title name report first now left rest n next before after i j x y answer beside reads more gave
    said bytes coming whole at has room = grind (arith, common_steps, fed, long_list)

pub feed_left : (old new : Option (List ℕ)) (answer : Result Summary TellFault) (name report : Bor Text) (n : ℕ)
    (P : List ℕ → Type 0) → IfSome old (λ _. (given : List ℕ) × Consumes old new given × P given)
    → OnOk answer (IsAtEnd new) → Leaves true (of_tell answer name report n) old new
feed_left old new answer name report n P gave end = grind (arith, common_steps)

-- ---- one list by its name

-- the same run, of whose failures more is known
told_as : {is : Run → Type 0} {r : Result ℕ Fault} {before after : Shown} {P Q : List Bool → Type 0}
    → IsTold is r before after P → ((f : List Bool) → P f → Q f) → IsTold is r before after Q
told_as t so = grind (arith, common_steps)

module _ (reporting : Reporting) (m : Meaning) (title : Option Text) (name report : Text) (left : Option Text) (n : ℕ)
    (rest : Option Text) (next : ℕ) (r : Result ℕ Fault) (b c : Seen) (before after : Shown) (x y : ℕ) where
  abbrev pub Over : Type 0
  Over = ToldOver reporting m title name report left n rest next r b c before after x y

  abbrev pub FedBy : Option (List ℕ) → ℕ → ℕ → Type 0
  FedBy first i j = (bytes coming whole : List ℕ) → first ≡ Some bytes → left ≡ Some coming → HasRoom whole coming n
      → IsTold (BesideRuns reporting m title name report (Some bytes) whole coming n rest next) r before after
      (λ f. ListCounted (is_input name) f i j x y)

  -- the list is standard input
  pub named_input : is_input name ≡ true → FedBy b.bytes b.input_failures c.input_failures
      → c.file_failures ≡ b.file_failures → Over
  named_input is fed same = λ bytes coming whole files at of has room. rw is
      (told_as (fed bytes coming whole at has room)
      (λ f counted. input_counted f _ _ _ _ _ _ same (rw is at counted)))

  -- it is a file that was opened, and closed
  pub named_file : {F : Type 0} (remaining : F → Option (List ℕ)) (feed : F) (i j v : ℕ) → is_input name ≡ false
      → IfSome b.files (λ files. (bytes : List ℕ) × (files name ≡ Some bytes) × (remaining feed ≡ Some bytes))
      → IfSome b.files (λ files. v ≡ count_after b.file_failures 0) → FedBy (remaining feed) i j → i ≡ 0
      → c.file_failures ≡ count_after v j → c.input_failures ≡ b.input_failures → Over
  named_file remaining feed i j v is opened counted fed fresh closed same = λ bytes coming whole files at of has room.
      let it = rw of at opened in let first = rw of at counted in
      rw (is, it.1) (told_as (fed it.0 coming whole it.2 has room)
      (λ f read. file_counted f i j _ _ _ v _ x y same first
      fresh closed (rw is at read)))

  -- it is a file that did not open
  pub named_none : (f : Fault) → is_input name ≡ false → IsErrAnd r (λ g. g ≡ f)
      → IfSome b.files (λ files. MayRefuse 0 name (files name) (trouble_of f) × (trouble_of f ≡ too_long name → ⊥))
      → IfSome b.files (λ files. c.file_failures ≡ count_after b.file_failures
      (failed_reads (files name) (trouble_of f)))
      → after ≡ before → c.input_failures ≡ b.input_failures → y ≡ x → Over
  named_none f is stop may counted quiet unread same = λ bytes coming whole files at of has room.
      let why = rw of at may in let lost = rw of at counted in let t = trouble_of f in
      let many = failed_reads (files name) t in rw is (record {
        run = refusal false (files name) t;
        is_run = inl (rw is (refused_by (2 ^ 64 - 1) false name (files name) t
            (refuse-few (files name) name t why.0 why.1)));
        does = λ out. Does-refused t _ f r out out stop refl refl;
        notes = quiet;
        counts = (
          failures_from false many,
          0,
          counts-replicate many false ∙ plus-none (failures_from false many) false,
          (omega (arith, unread), lost),
          omega (arith, same),
        );
      })

-- ---- the run over lists

and_some : {X : Type 0} (o : Option X) (x : X) (P : X → Type 0) → o ≡ Some x → P x → IsSomeAnd o P
and_some o x P is p = rw is p

-- what a list that was read to its end leaves of standard input
left_by : (b : Bool) (s : ℕ) (bytes : List ℕ) (now : Option (List ℕ))
    → (let r : Result ℕ Fault = Ok s in Leaves b r (Some bytes) now) → now ≡ Some (if b then [] else bytes)
left_by b s bytes now leaves = grind (arith, common_steps)

plus-file : (b : Bool) (k : ℕ) → failures_from false k ≡ plus (failures_from b 0) (failures_from false k)
plus-file b k = grind (arith, common_steps, pair)

-- ---- what is seen of lists beside their report

fits : (n m : ℕ) → n ≤ m → nat_le n m ≡ true
fits n m less = grind (arith, nat_tests)

-- where all is told
pub told_known : (report : Text) (left : Option Text) (n : ℕ) (bytes : Option (List ℕ)) (files : Option Files)
    (P : Beside → Type 0) → ((text m : List ℕ) (f : Files) (whole : Text) → left ≡ Some text → bytes ≡ Some m
    → files ≡ Some f → f report ≡ Some whole → HasRoom whole text n
    → P (record { left = text; number = n; input = m })) → IfSome (told_state report left n bytes files) P
told_known report left n bytes files P holds = grind (arith, common_steps, nat_tests)

known_told : (report text m : List ℕ) (f : Files) (whole : Text) (left : Option Text) (n : ℕ) (bytes : Option (List ℕ))
    (files : Option Files) → left ≡ Some text → bytes ≡ Some m → files ≡ Some f → f report ≡ Some whole
    → HasRoom whole text n → told_state report left n bytes files ≡ Some (record { left = text; number = n; input = m })
known_told report text m f whole left n bytes files is at of readable room = grind (arith, common_steps, fits)

-- ---- the run of one list

module _ (reporting : Reporting) (m : Meaning) (lists : List Text) (report name : Text) (title : Option Text)
    (called : title ≡ (if nat_lt 1 (length lists) then Some name else None)) (left rest : Option Text) (n next : ℕ)
    (shared : Bool) (r : Result ℕ Fault) (b c : Seen) (err_old err_new : Shown) (x y : ℕ) where
  -- the run of a list is a step of the walk, and it is known what is behind it if it ends with a status
  abbrev Stepped : Beside → Run → Type 0
  Stepped z run = (w : Beside) × (by_report_of m reporting b.files lists report).step z name run w
      × ((s : ℕ) → run.ending ≡ Ok s → c.bytes ≡ Some (if is_input name then [] else z.input) → c.files ≡ b.files
      → told_state report rest next c.bytes c.files ≡ Some w)

  stepped : (coming bytes whole : List ℕ) (files : Files) → b.files ≡ Some files → files report ≡ Some whole
      → HasRoom whole coming n → (run : Run)
      → BesideRuns reporting m title name report (content_of name bytes files) whole coming n rest next run
      → Stepped (record { left = coming; number = n; input = bytes }) run
  stepped coming bytes whole files of is room run runs = on (content_of name bytes files) refl runs
    where
      here : Beside
      here = record { left = coming; number = n; input = bytes }

      on : (content : Option (List ℕ)) → content_of name bytes files ≡ content
          → BesideRuns reporting m title name report content whole coming n rest next run → Stepped here run
      on content at (inl p) = (
        here,
        inl (rw (of, at) p),
        λ s ends. absurd (refused_ends (2 ^ 64 - 1) (is_input name) name content run s p ends),
      )
      on content at (inr (inl p)) = (
        here,
        inr (inl (rw (of, is) p)),
        λ s ends. absurd (refused_ends (2 ^ 64 - 1) false report (Some whole) run s p ends),
      )
      on None at (inr (inr p)) = absurd p
      on (Some m) at (inr (inr (os, front, after, cut, possible, behind, split, inl ended))) =
          let next_is = ended.3 in
          let few = lines_few title os in
          let longer = length-append (report_from title 1 os) behind in
          let long = ap length split in
          let over : List ℕ = if is_input name then [] else bytes in
          let end : Beside = record { left = behind; number = next; input = over } in (
            end,
            inr (inr (rw (of, at) (
              os,
              front,
              after,
              cut,
              possible,
              rw (← called) (behind, split, inl (ended.0, ended.1, ap (λ k. record end { number = k }) next_is)),
            ))),
            λ s ends now still. known_told report behind over files whole rest next c.bytes c.files ended.2 now
                (still ∙ of) is (omega (arith, few, longer, long, next_is, room)),
          )
      on (Some m) at (inr (inr (os, front, after, cut, possible, behind, split, inr wrong))) = (
        here,
        inr (inr (rw (of, at) (os, front, after, cut, possible, rw (← called) (behind, split, inr wrong)))),
        λ s ends. absurd (not_both run _ s (ap (λ (q : Run). q.ending) wrong.3) ends),
      )

  -- what was done of it, from a state on
  abbrev pub ToldOnce : Beside → Text → Result ℕ Fault → Shown → Type 0
  ToldOnce z i q out = Once (λ run. (w : Beside) × (by_report_of m reporting b.files lists report).step z i run w
      × OnOk q (told_state report rest next c.bytes c.files ≡ Some w)) false shared (ReportOf b c x y) q
      b.out out err_old
      err_new

  pub list_told : ToldOver reporting m title name report left n rest next r b c err_old err_new x y
      → Leaves (is_input name) r b.bytes c.bytes → c.files ≡ b.files → c.out ≡ b.out
      → IfSome (told_state report left n b.bytes b.files) (λ z. (i : Text) → i ≡ name → ToldOnce z i r c.out)
  list_told read gave kept out = told_known report left n b.bytes b.files _
      (λ coming bytes files whole has at of is room.
      λ i named. let t = read bytes coming whole files at of has room in
      rw (named, out) (on (record { left = coming; number = n; input = bytes }) r t
      (stepped coming bytes whole files of is room t.run t.is_run) (rw at at gave)))
    where
      on : (z : Beside) (q : Result ℕ Fault) {is : Run → Type 0} (t : IsTold is q err_old err_new (ReportOf b c x y))
          → Stepped z t.run → Leaves (is_input name) q (Some z.input) c.bytes → ToldOnce z name q b.out
      on z (Ok s) t (w, step, known) gave = once_done t.run b.out b.out err_old err_new
          (w, step, known s (t.does b.out).ending (left_by (is_input name) s z.input c.bytes gave) kept)
          t.counts t.notes
          false shared s (t.does b.out)
      on z (Err f) t (w, step, known) gave =
          once_last t.run b.out b.out err_old err_new (w, step, tt) t.counts t.notes f (t.does b.out) false shared refl

-- ---- after the last list

module _ (reporting : Reporting) (m : Meaning) (lists : List Text) (report : Text) (left : Option Text) (n status : ℕ)
    (first : Option (List ℕ)) (tree : Option Files) (i u x y : ℕ) where
  -- nothing is left of the report
  pub report_ended : IfSome left (λ text. text ≡ []) → y ≡ count_after x 0
      → IfSome (told_state report left n first tree) (λ z. (by_report_of m reporting tree lists report).ending z
      status (prints [] status) × ReportCounted [] i i u u x y)
  report_ended none same = told_known report left n first tree _ (λ text bytes files whole has at of is room.
      let empty : text ≡ [] = rw has at none in (
        inr (rw empty refl),
        (
          no_failures,
          0,
          refl,
          Counted-none i _ u _ refl (omega arith),
          same,
        ),
      ))

  -- or its next line is that of no entry, or cannot be read
  pub report_goes_on : (f : Fault) → IfSome left (λ text. (trouble_of f ≡ cannot_read report)
      ⊎ ((0 < length text) × (trouble_of f ≡ other_line report n)))
      → y ≡ count_after x (failed_reads (Some []) (trouble_of f))
      → IfSome (told_state report left n first tree) (λ z. Breaks ((by_report_of m reporting tree lists
      report).ending z status) f (λ failures. ReportCounted failures i i u
      u x y))
  report_goes_on f how counted = told_known report left n first tree _ (λ text bytes files whole has at of is room.
      on bytes text files whole of is (rw has at how))
    where
      some : (k : ℕ) → 0 < k → (k == 0) ≡ false
      some k more = grind (arith, nat_tests)

      on : (input : List ℕ) (text : Text) (files : Files) (whole : Text) → tree ≡ Some files → files report ≡ Some whole
          → (trouble_of f ≡ cannot_read report) ⊎ ((0 < length text) × (trouble_of f ≡ other_line report n))
          → Breaks ((by_report_of m reporting tree lists report).ending
          (record { left = text; number = n; input = input }) status) f (λ failures. ReportCounted failures
          i i u u x y)
      on input text files whole of is (inl t) = (
        false ∷ [],
        inl (rw (of, is, t) (unread_by false report (Some whole) (cannot_read report) (inr (inl refl)))),
        (
          failures_from false 0,
          1,
          counts-replicate 1 false ∙ plus-file false 1,
          Counted-none i _ u _ refl (omega arith),
          rw t at counted,
        ),
      )
      on input text files whole of is (inr (more, t)) = (
        [],
        inr (rw (some (length text) more, t) refl),
        (
          no_failures,
          0,
          refl,
          Counted-none i _ u _ refl (omega arith),
          rw t at counted,
        ),
      )

-- ---- the report

module _ (reporting : Reporting) (m : Meaning) (report : Text) (names : List Text) (r : Result ℕ Fault)
    (err_old err_new : Shown) where
  abbrev pub Reported : Option (List ℕ) → Option Files → Shown → Shown → (i j u v : ℕ) → Type 0
  Reported first tree old new i j u v = IfSome first (λ bytes. IfSome tree (λ files.
      (run : Run) × ListsRun m reporting (in_file report) files names bytes run × Does run r old new
      × TellsAll err_old err_new run.notes × Counted (counts run.failures) i j u v))

  -- it did not open
  pub report_none : (first : Option (List ℕ)) (tree : Option Files) (f : Fault) (s : Shown) (i u v : ℕ)
      → IsErrAnd r (λ g. g ≡ f)
      → IfSome tree (λ files. MayRefuse 0 report (files report) (trouble_of f)
      × (trouble_of f ≡ too_long report → ⊥))
      → IfSome tree (λ files. v ≡ count_after u (failed_reads (files report) (trouble_of f))) → err_new ≡ err_old
      → Reported first tree s s i i u v
  report_none None tree f s i u v stop may counted quiet = tt
  report_none (Some bytes) None f s i u v stop may counted quiet = tt
  report_none (Some bytes) (Some files) f s i u v stop may counted quiet =
      let t = trouble_of f in (
        refusal false (files report) t,
        inl (unread_by false report (files report) t (unopened report (files report) t may.0 may.1)),
        Does-refused t _ f r s s stop refl refl,
        quiet,
        Counted-refusal false (files report) t i i u v (omega arith, counted),
      )

  -- it was opened, read beside the lists, and closed
  pub report_read : {F : Type 0} (remaining : F → Option (List ℕ)) (feed : F) (tree : Option Files)
      (left : Option Text) (b d : Seen) (share : Share) (x y u v : ℕ) → share.others ≡ 0 → share.waiting ≡ 0
      → IfSome tree (λ files. (whole : List ℕ) × (files report ≡ Some whole) × (remaining feed ≡ Some whole))
      → b.files ≡ tree → IfSome tree (λ files. b.file_failures ≡ count_after u 0) → left ≡ remaining feed → x ≡ 0
      → IfSome (told_state report left 1 b.bytes b.files) (λ z. DoesWalk false
      (by_report_of m reporting b.files names report) share z names (ReportOf b d x y) r b.out d.out err_old err_new)
      → v ≡ count_after d.file_failures y
      → Reported b.bytes tree b.out d.out b.input_failures d.input_failures u v
  report_read remaining feed tree left b d share x y u v alone first opened kept counted is fresh lists closed = grind
      (arith, common_steps, known_told, every-all, and_some, Counted-as)

-- files that were opened for lists and their report, by what is opened for some of the lists
pub report_opened : (lists : List Text) (share : Share) (i j k l : ℕ) → share.others ≡ 0 → share.waiting ≡ 0
    → (done : List Text) × (rest : List Text) × (every share.others share.waiting lists ≡ done ++ rest)
    × (k ≤ j + sum_by opens_of done) → j ≤ i + 1 → l ≤ k → l ≤ i + (1 + sum_by opens_of lists)
report_opened lists share i j k l alone first h begun closed = grind (arith, common_steps, opens_some, every-all)
