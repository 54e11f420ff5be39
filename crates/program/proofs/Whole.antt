-- A run of the program is that of its request, with the last trouble told.
use Rattle.std.proofs.lemmas.Grind.{common_steps}
use Rattle.std.proofs.Common.{◌≡◌, ℕ, List, [], ◌∷◌, Option, Some, None, Result, Ok, Err, IfOk, IfSome, refl, ◌⊎◌, ◌+◌}
use Rattle.std.proofs.Common.{◌≤◌, false, inl, inr, append-nil, arith}
use Rattle.std.proofs.KnownBytes.{Appends-nil}
use Rattle.hashes.specs.declared.share.Share.{Share}
use Rattle.source.specs.Written.{Done, Failed, Shown}
use Rattle.sumlist.specs.Report.{Files}
use Rattle.request.specs.CommandLine.{AreRead, ErrorKind, Given, IsWrong, Text, given_of, kind_of}
use Rattle.request.specs.inside.Reading.{IsRead}
use Rattle.request.specs.declared.request.Request.{Request}
use Rattle.request.specs.declared.request.WordsFault.{WordsFault}
use Rattle.request.specs.declared.request.WordsFault.TheVariants as words_fault
use Rattle.task.specs.Tasks.{Asked, Source, asked}
use Rattle.task.specs.declared.tasks.Entries.{Entries}
use Rattle.task.specs.declared.tasks.Reporting.{Reporting}
use Rattle.task.specs.inside.Views.{entries_shown}
use Rattle.command.specs.Checking.{list_opens}
use Rattle.command.specs.Run.{Counted, Run, Runs, Tells, TellsAll, prints, stops, cannot_write as run_cannot_write}
use Rattle.command.specs.Run.{out_of_memory as run_out_of_memory}
use Rattle.command.specs.inside.Rules.{EntriesRun, entries_opens}
use Rattle.command.specs.inside.Seen.{Does}
use Rattle.command.specs.inside.Troubles.{cannot_write, out_of_memory, status_of, told, trouble_of, usage}
use Rattle.command.specs.declared.fault.Fault.{Fault}
use Rattle.command.proofs.Telling.{TellsAll-append, TellsAll-one}
use Rattle.program.specs.Program.{ClapRuns, ProgramRuns, RequestRuns, TaskRuns, most_opens}

-- what `line` promises of its answer, as one fact
pub read_as : (words : List Text) (read : Result Request WordsFault)
    → IfOk read (λ r. AreRead words (Ok (given_of r)))
    → ((e : _) → read ≡ Err (words_fault.Words e) → AreRead words (Err (kind_of e))) → IsRead words read
read_as words read reads fault = grind (arith, common_steps)

Counted-none : (i u : ℕ) → Counted [] i i u u
Counted-none i u = (omega arith, omega arith)

Runs-done : (run : Run) (status : ℕ) (out_old out_new err_old err_new : Shown)
    → Does run (Ok status) out_old out_new → TellsAll err_old err_new run.notes
    → Runs run status out_old out_new err_old err_new
Runs-done run status out_old out_new err_old err_new takes tells = grind (arith, common_steps, append-nil)

Runs-stopped : (run : Run) (f : Fault) (status : ℕ) (out_old out_new err_old err_mid err_new : Shown)
    → Does run (Err f) out_old out_new → TellsAll err_old err_mid run.notes
    → status ≡ status_of (trouble_of f) → Tells err_mid err_new (told (trouble_of f))
    → Runs run status out_old out_new err_old err_new
Runs-stopped run f status out_old out_new err_old err_mid err_new takes tells is last = grind (arith, common_steps, TellsAll-append, TellsAll-one)

module _ (first : Option (List ℕ)) (tree : Option Files) where
  -- what was done of a task
  abbrev pub Worked : Asked → Result ℕ Fault → (out_old out_new err_old err_new : Shown) → (i j u v x y : ℕ) → Type 0
  Worked task answer out_old out_new err_old err_new i j u v x y =
      IfSome first (λ bytes. IfSome tree (λ files. (run : Run)
      × (TaskRuns task files bytes run × (y ≤ x + most_opens task files bytes)) × Does run
      answer out_old out_new × TellsAll err_old err_new run.notes × Counted run.failures i j u v))

  -- what was done of a task by a command that passes over nothing
  abbrev pub Quietly : Asked → Result ℕ Fault → (out_old out_new : Shown) → (i j u v : ℕ) → Type 0
  Quietly asked answer out_old out_new i j u v =
      IfSome first (λ bytes. IfSome tree (λ files. (run : Run) × TaskRuns asked files bytes run × Does
      run answer out_old out_new × (run.notes ≡ []) × Counted run.failures i j u v))

  -- and by one that tells what it passes over
  abbrev pub Tellingly : Asked → Result ℕ Fault → (out_old out_new err_old err_new : Shown) → (i j u v : ℕ) → Type 0
  Tellingly asked answer out_old out_new err_old err_new i j u v =
      IfSome first (λ bytes. IfSome tree (λ files. (run : Run) × TaskRuns asked files bytes run × Does
      run answer out_old out_new × TellsAll err_old err_new run.notes × Counted run.failures i j
      u v))

  -- how many files that opened at most
  abbrev pub Opens : Asked → (x y : ℕ) → Type 0
  Opens asked x y = IfSome first (λ bytes. IfSome tree (λ files. y ≤ x + most_opens asked files bytes))

  -- what a run did
  abbrev pub Program : List Text → ℕ → (out_old out_new err_old err_new : Shown) → (i j u v x y : ℕ) → Type 0
  Program words status out_old out_new err_old err_new i j u v x y =
      IfSome first (λ bytes. IfSome tree (λ files. ProgramRuns words bytes files status out_old out_new err_old
      err_new i j u v x y))

-- whatever the bytes and the files are
opens_always : (first : Option (List ℕ)) (tree : Option Files) (task : Asked) (x y : ℕ)
    → ((bytes : List ℕ) (files : Files) → y ≤ x + most_opens task files bytes) → Opens first tree task x y
opens_always first tree task x y most = grind (arith, common_steps)

pub told_task : (first : Option (List ℕ)) (tree : Option Files) (task shown : Asked) (answer : Result ℕ Fault)
    (out_old out_new err_old err_new : Shown) (i j u v x y : ℕ)
    → task ≡ shown → Tellingly first tree shown answer out_old out_new err_old err_new i j u v
    → Opens first tree shown x y → Worked first tree task answer out_old out_new err_old err_new i j u v x y
told_task first tree task shown answer out_old out_new err_old err_new i j u v x y same h most = grind (arith, common_steps)

pub told_always : (first : Option (List ℕ)) (tree : Option Files) (task shown : Asked) (answer : Result ℕ Fault)
    (out_old out_new err_old err_new : Shown) (i j u v x y : ℕ)
    → task ≡ shown → Tellingly first tree shown answer out_old out_new err_old err_new i j u v
    → ((bytes : List ℕ) (files : Files) → y ≤ x + most_opens shown files bytes)
    → Worked first tree task answer out_old out_new err_old err_new i j u v x y
told_always first tree task shown answer out_old out_new err_old err_new i j u v x y same h most = grind (arith, common_steps, told_task, opens_always)

pub quiet_told : (first : Option (List ℕ)) (tree : Option Files) (task shown : Asked) (answer : Result ℕ Fault)
    (out_old out_new err : Shown) (i j u v x y : ℕ)
    → task ≡ shown → Quietly first tree shown answer out_old out_new i j u v → Opens first tree shown x y
    → Worked first tree task answer out_old out_new err err i j u v x y
quiet_told first tree task shown answer out_old out_new err i j u v x y same h most = grind (arith, common_steps)

pub quiet_task : (first : Option (List ℕ)) (tree : Option Files) (task shown : Asked) (answer : Result ℕ Fault)
    (out_old out_new err : Shown) (i j u v x y : ℕ)
    → task ≡ shown → Quietly first tree shown answer out_old out_new i j u v
    → ((bytes : List ℕ) (files : Files) → y ≤ x + most_opens shown files bytes)
    → Worked first tree task answer out_old out_new err err i j u v x y
quiet_task first tree task shown answer out_old out_new err i j u v x y same h most = grind (arith, common_steps, quiet_told, opens_always)

-- lists are checked as what their entries are asks for
pub told_check : (first : Option (List ℕ)) (tree : Option Files) (entries : Entries) (reporting : Reporting)
    (by : Source Share) (lists : List Text) (answer : Result ℕ Fault) (out_old out_new err_old err_new : Shown)
    (i j u v : ℕ)
    → IfSome first (λ bytes. IfSome tree (λ files. (run : Run) × EntriesRun entries reporting by files lists bytes run
    × Does run answer out_old out_new × TellsAll err_old err_new run.notes × Counted run.failures i j u v))
    → Tellingly first tree (entries_shown entries reporting by lists) answer out_old out_new err_old err_new i j u v
told_check first tree entries reporting by lists answer out_old out_new err_old err_new i j u v h = grind (arith, common_steps)

-- and open as many files
pub check_opens : (first : Option (List ℕ)) (tree : Option Files) (entries : Entries) (reporting : Reporting)
    (by : Source Share) (lists : List Text) (x y : ℕ) → IfSome first (λ bytes. IfSome tree (λ files. y ≤ x
    + (entries_opens entries + list_opens by lists files bytes)))
    → Opens first tree (entries_shown entries reporting by lists) x y
check_opens first tree entries reporting by lists x y most = grind (arith, common_steps)

-- the run of a task is that of the request that asks for it
requested : (r : Given) (task : Asked) (files : Files) (bytes : List ℕ) (run : Run) → asked r ≡ Ok task
    → TaskRuns task files bytes run → RequestRuns r files bytes run (most_opens task files bytes)
requested r task files bytes run is runs = inl (rw is (runs, refl))

-- and a fault of its settings is told
refused : (r : Given) (fault : Text) (files : Files) (bytes : List ℕ) → asked r ≡ Err fault
    → RequestRuns r files bytes (stops (2, fault)) 0
refused r fault files bytes is = inl (rw is (refl, refl))

-- the text of wrong words is told
pub clap_told : (kind : ErrorKind) (text : Text) (status : ℕ) (out_old out_new err_old err_new : Shown) → IsWrong kind
    → status ≡ 2 → out_new ≡ out_old → Tells err_old err_new text
    → (run : Run) × ClapRuns kind text run × (run.failures ≡ []) × Runs run status out_old out_new err_old err_new
clap_told kind text status out_old out_new err_old err_new wrong is none tells = (
  record (prints [] 2) { notes = text ∷ [] },
  (λ _. refl, λ right. absurd (right wrong)),
  refl,
  record {
    status = is;
    out = rw none (refl, Appends-nil out_old.contents);
    err = TellsAll-one err_old err_new text tells;
  },
)

-- and that of help and of the version printed
pub clap_printed : (kind : ErrorKind) (text : Text) (status : ℕ) (out_old out_new err_old err_new : Shown)
    → (IsWrong kind → ⊥) → ((status ≡ 0) × Done out_old out_new text × (err_new ≡ err_old))
    ⊎ ((status ≡ 3) × Failed out_old out_new text × Tells err_old err_new (told cannot_write))
    → (run : Run) × ClapRuns kind text run × (run.failures ≡ []) × Runs run status out_old out_new err_old err_new
clap_printed kind text status out_old out_new err_old err_new right (inl p) = (
  prints text 0,
  (λ wrong. absurd (right wrong), λ _. inl refl),
  refl,
  record { status = p.0; out = p.1; err = p.2 },
)
clap_printed kind text status out_old out_new err_old err_new right (inr p) = (
  record (stops run_cannot_write) { text = text; is_whole = false },
  (λ wrong. absurd (right wrong), λ _. inr refl),
  refl,
  record { status = p.0; out = p.1; err = TellsAll-one err_old err_new (told cannot_write) p.2 },
)

module _ (words : List Text) where
  pub run_done : (first : Option (List ℕ)) (tree : Option Files) (r : Given) (task : Asked) (status : ℕ)
      (out_old out_new err_old err_new : Shown) (i j u v x y : ℕ) → AreRead words (Ok r) → asked r ≡ Ok task
      → Worked first tree task (Ok status) out_old out_new err_old err_new i j u v x y
      → Program first tree words status out_old out_new err_old err_new i j u v x y
  run_done None tree r task status out_old out_new err_old err_new i j u v x y read is h = tt
  run_done (Some bytes) None r task status out_old out_new err_old err_new i j u v x y read is h = tt
  run_done (Some bytes) (Some files) r task status out_old out_new err_old err_new i j u v x y read is h = (
    h.0,
    most_opens task files bytes,
    Runs-done h.0 status out_old out_new err_old err_new h.2 h.3,
    h.4,
    h.1.1,
    inl (r, read, requested r task files bytes h.0 is h.1.0),
  )

  pub run_stopped : (first : Option (List ℕ)) (tree : Option Files) (r : Given) (task : Asked) (f : Fault) (status : ℕ)
      (out_old out_new err_old err_mid err_new : Shown) (i j u v x y : ℕ) → AreRead words (Ok r) → asked r ≡ Ok task
      → Worked first tree task (Err f) out_old out_new err_old err_mid i j u v x y
      → status ≡ status_of (trouble_of f) → Tells err_mid err_new (told (trouble_of f))
      → Program first tree words status out_old out_new err_old err_new i j u v x y
  run_stopped None tree r task f status out_old out_new err_old err_mid err_new i j u v x y read is h same last = tt
  run_stopped (Some bytes) None r task f status out_old out_new err_old err_mid err_new i j u v x y read is h same
      last = tt
  run_stopped (Some bytes) (Some files) r task f status out_old out_new err_old err_mid err_new i j u v x y read is h
      same last = (
        h.0,
        most_opens task files bytes,
        Runs-stopped h.0 f status out_old out_new err_old err_mid err_new h.2 h.3 same last,
        h.4,
        h.1.1,
        inl (r, read, requested r task files bytes h.0 is h.1.0),
      )

  -- a setting is at fault
  pub run_refused : (first : Option (List ℕ)) (tree : Option Files) (r : Given) (fault : Text) (status : ℕ)
      (out err_old err_new : Shown) (i u x : ℕ) → AreRead words (Ok r) → asked r ≡ Err fault
      → status ≡ 2 → Tells err_old err_new (told (usage fault))
      → Program first tree words status out out err_old err_new i i u u x x
  run_refused None tree r fault status out err_old err_new i u x read is same last = tt
  run_refused (Some bytes) None r fault status out err_old err_new i u x read is same last = tt
  run_refused (Some bytes) (Some files) r fault status out err_old err_new i u x read is same last = (
    stops (2, fault),
    0,
    record {
      status = same;
      out = (refl, Appends-nil out.contents);
      err = TellsAll-one err_old err_new (told (usage fault)) last;
    },
    Counted-none i u,
    omega arith,
    inl (r, read, refused r fault files bytes is),
  )

  pub run_without_memory : (first : Option (List ℕ)) (tree : Option Files) (status : ℕ) (out err_old err_new : Shown)
      (i u x : ℕ)
      → status ≡ 3 → Tells err_old err_new (told out_of_memory)
      → Program first tree words status out out err_old err_new i i u u x x
  run_without_memory None tree status out err_old err_new i u x is last = tt
  run_without_memory (Some bytes) None status out err_old err_new i u x is last = tt
  run_without_memory (Some bytes) (Some files) status out err_old err_new i u x is last = (
    stops run_out_of_memory,
    0,
    record {
      status = is;
      out = (refl, Appends-nil out.contents);
      err = TellsAll-one err_old err_new (told out_of_memory) last;
    },
    Counted-none i u,
    omega arith,
    inr (inr (refl, refl)),
  )

  pub run_answered : (first : Option (List ℕ)) (tree : Option Files) (kind : ErrorKind) (text : Text) (status : ℕ)
      (out_old out_new err_old err_new : Shown) (i u x : ℕ)
      → AreRead words (Err kind)
      → (run : Run) × ClapRuns kind text run × (run.failures ≡ []) × Runs run status out_old out_new err_old err_new
      → Program first tree words status out_old out_new err_old err_new i i u u x x
  run_answered None tree kind text status out_old out_new err_old err_new i u x among h = tt
  run_answered (Some bytes) None kind text status out_old out_new err_old err_new i u x among h = tt
  run_answered (Some bytes) (Some files) kind text status out_old out_new err_old err_new i u x among h =
      (h.0, 0, h.3, rw h.2 (Counted-none i u), omega arith, inr (inl (kind, text, among, h.1, refl)))

  -- the streams are handed back as the session left them
  pub handed_back : {L T W : Type 0} (shown : W → Shown) (reads : L → ℕ) (failures opens : T → ℕ)
      (first : Option (List ℕ)) (tree : Option Files) (status : ℕ) (out_old err_old err_new : Shown) (i u x : ℕ)
      (out out_end : W) (input input_end : L) (files files_end : T)
      → out_end ≡ out → input_end ≡ input → files_end ≡ files
      → Program first tree words status out_old (shown out) err_old err_new i (reads input) u (failures files) x
      (opens files)
      → Program first tree words status out_old (shown out_end) err_old err_new i (reads input_end) u
      (failures files_end) x (opens files_end)
  handed_back shown reads failures opens first tree status out_old err_old err_new i u x out out_end input input_end files files_end o p q h = grind (arith, common_steps)
