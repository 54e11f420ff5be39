-- The run of `part --list`.
use Rattle.std.proofs.lemmas.Grind.{common_steps}
use Rattle.std.proofs.Common.{◌≡◌, ℕ, zero, suc, ◌+◌, ◌-◌, ◌*◌, ◌/◌, ◌^◌, ◌<◌, ◌≤◌, List, [], ◌∷◌, ◌++◌, length, max}
use Rattle.std.proofs.Common.{Bool, true, false, Option, Some, None, IfSome, Result, Ok, Err, refl, inl, inr, subst}
use Rattle.std.proofs.Common.{arith}
use Rattle.std.proofs.Math.Nat.{div-mul-le_self, mul-div-le, mul-le-mul_left, two-pow-succ}
use Rattle.std.proofs.lemmas.Bool.{cases_lt}
use Rattle.std.proofs.lemmas.Nat.{div_below, le-div}
use Rattle.std.specs.Fmt.{decimal}
use Rattle.std.specs.List.{flat_map, range_with_len}
use Rattle.std.specs.Prelude.{◌↔◌, IsErrAnd, IsSomeAnd, IsTrue, MatchResult}
use Rattle.request.specs.CommandLine.{Text}
use Rattle.source.specs.Counts.{count_after}
use Rattle.source.specs.Written.{Done, Failed, Shown}
use Rattle.sumlist.specs.Report.{Files}
use Rattle.command.specs.Run.{Prints, Run}
use Rattle.command.specs.Cutting.{StartsRuns}
use Rattle.command.specs.inside.Troubles.{cannot_write, trouble_of}
use Rattle.command.specs.declared.fault.Fault.{Fault}
use Rattle.command.specs.inside.Cutting.{CountsParts, TellsByte, part_count, start_lines}
use Rattle.command.specs.inside.Reading.{failed}
use Rattle.command.proofs.Refused.{Counted-file, Counted-none, unread_by}
use Rattle.command.proofs.Tagging.{Taken, Taken-refused, Taken-said}

-- ---- the positions of first chunks

-- none is beyond the end of the longest message
pub before_end : (n i : ℕ) → i < (2 ^ 54 - 1) / n + 1 → n * i < 2 ^ 54
before_end n i below = grind (arith, common_steps, mul-le-mul_left, mul-div-le)

near_end : (q n x : ℕ) → q * (1024 * n) ≤ x → x ≤ 2 ^ 64 - 2 → q * n ≤ 2 ^ 54 - 1
near_end q n x below few = omega arith

-- so many bytes have no more parts than there are positions
pub no_more : (n x : ℕ) → 1 ≤ n → x ≤ 2 ^ 64 - 2 → x / (1024 * n) ≤ (2 ^ 54 - 1) / n
no_more n x some few = grind (arith, common_steps, le-div, near_end, div-mul-le_self)

-- ---- the number of parts, by whether there is a byte

pub counts_on : (n i : ℕ) (m : List ℕ) → 1 ≤ n → n * i < 2 ^ 54 → 1024 * (n * i) < length m → i + 1 ≤ part_count n m
counts_on n i m some within has = grind (arith, common_steps, le-div)

pub counts_none : (n i : ℕ) (m : List ℕ) → 1 ≤ n → length m ≤ 1024 * (n * i) → part_count n m ≤ max 1 i
counts_none n i m some none = grind (arith, common_steps, div_below)

-- what the halves know of the number of parts: nothing where there is no file
abbrev pub Known : ℕ → (least most : ℕ) → Option (List ℕ) → Type 0
Known n least most None = (least ≡ 0) × (most ≡ (2 ^ 54 - 1) / n + 1)
Known n least most (Some m) = (least ≤ part_count n m) × (part_count n m ≤ max 1 most)

-- before the first
known_first : (n : ℕ) (content : Option (List ℕ)) → 1 ≤ n → Known n 0 ((2 ^ 54 - 1) / n + 1) content
known_first n content some = grind (arith, common_steps, no_more)

-- a byte was looked for at the first chunk of a part
known_more : (n least most i : ℕ) (has : Bool) (content : Option (List ℕ)) → 1 ≤ n → n * i < 2 ^ 54 → has ≡ true
    → IsSomeAnd content (λ m. IsTrue has ↔ (1024 * (n * i) < length m)) → Known n least most content
    → Known n (i + 1) most content
known_more n least most i has content some within is byte known = grind (arith, common_steps, counts_on)

pub none_there : (has : Bool) (position size : ℕ) → has ≡ false → (IsTrue has ↔ (position < size)) → size ≤ position
none_there has position size is byte = grind (arith, common_steps, cases_lt)

known_fewer : (n least most i : ℕ) (has : Bool) (content : Option (List ℕ)) → 1 ≤ n → has ≡ false
    → IsSomeAnd content (λ m. IsTrue has ↔ (1024 * (n * i) < length m)) → Known n least most content
    → Known n least i content
known_fewer n least most i has content some is byte known = grind (arith, common_steps, counts_none, none_there)

-- ---- the same, where the files are told

module _ (n : ℕ) (name : Text) where
  -- what the halves know, and that nothing has failed
  abbrev pub Counting : Option Files → (least most i j : ℕ) → Type 0
  Counting tree least most i j = IfSome tree (λ files. Known n least most (files name) × (j ≡ count_after i 0))

  -- what an answer says of a byte at a position, and the failures behind it
  abbrev Byte : Option Files → ℕ → (j k : ℕ) → Result Bool Fault → Type 0
  Byte tree position j k r = IfSome tree (λ files. TellsByte name position (files name) r)
      × IfSome tree (λ files. k ≡ count_after j (failed false (files name) r).files)

  pub counting_first : (tree : Option Files) (most i : ℕ) → 1 ≤ n → most ≡ (2 ^ 54 - 1) / n + 1
      → Counting tree 0 most i i
  counting_first tree most i some is = grind (arith, common_steps, known_first)

  pub counting_more : (tree then_tree : Option Files) (least most at i j k : ℕ) (has : Bool) → 1 ≤ n
      → n * at < 2 ^ 54 → has ≡ true → then_tree ≡ tree → Byte then_tree (1024 * (n * at)) j k (Ok has)
      → Counting tree least most i j → Counting tree (at + 1) most i k
  counting_more tree then_tree least most at i j k has some within is same byte known = grind
      (arith, common_steps, known_more)

  pub counting_fewer : (tree then_tree : Option Files) (least most at i j k : ℕ) (has : Bool) → 1 ≤ n
      → has ≡ false → then_tree ≡ tree → Byte then_tree (1024 * (n * at)) j k (Ok has)
      → Counting tree least most i j → Counting tree least at i k
  counting_fewer tree then_tree least most at i j k has some is same byte known = grind
      (arith, common_steps, known_fewer)

  -- what the count of the parts answers
  abbrev pub Counted : Option Files → (i k : ℕ) → Result ℕ Fault → Type 0
  Counted tree i k r = IfSome tree (λ files. CountsParts n name (files name) r)
      × IfSome tree (λ files. k ≡ count_after i (failed false (files name) r).files)

-- the first chunks of all parts are numbers
pub chunks_fit : (n least most : ℕ) → n ≤ 2 ^ 54 → least ≤ most → ((i : ℕ) → i < most → n * i < 2 ^ 54)
    → n * max least 1 < 2 ^ 64
chunks_fit n zero most high low within =
    let one : max zero 1 ≡ 1 = omega arith in
    rw one (omega (arith, high))
chunks_fit n (suc k) most high low within =
    let last = within k (omega (arith, low)) in
    let is : max (suc k) 1 ≡ suc k = omega arith in
    rw is (omega (arith, last, high))

-- ---- how many opens are left

pub opens_first : (w : ℕ) → w ≤ 2 ^ 54 → (k : ℕ) × (w < 2 ^ k) × (k ≤ 55)
opens_first w few = (55, omega (arith, few), omega arith)

pub opens_next : (w v k : ℕ) → w < 2 ^ k → 0 < w → v ≤ w / 2 → (j : ℕ) × (v < 2 ^ j) × (j + 1 ≤ k)
opens_next w v zero few some half = absurd (omega (arith, few, some))
opens_next w v (suc j) few some half = let double = two-pow-succ j in (j, omega (arith, few, half, double), omega arith)

-- ---- the lines

abbrev pub lines_from : (n first count : ℕ) → Text
lines_from n first count = flat_map (λ i. decimal (n * i) ++ 10 ∷ []) (range_with_len first count)

pub next_line : (n i count : ℕ) → i < count
    → lines_from n i (count - i) ≡ (decimal (n * i) ++ 10 ∷ []) ++ lines_from n (i + 1) (count - (i + 1))
next_line n i count more = let next : count - i ≡ suc (count - (i + 1)) = omega arith in rw next refl

pub all_lines : (n count : ℕ) → lines_from n 0 (count - 0) ≡ start_lines n count
all_lines n count = let same : count - 0 ≡ count = omega arith in rw same refl

pub no_line : (n i count : ℕ) → count ≤ i → lines_from n i (count - i) ≡ []
no_line n i count end = let none : count - i ≡ 0 = omega arith in rw none refl

-- ---- the run

module _ (n : ℕ) (name : Text) where
  -- what is to be shown of it
  abbrev pub TellsStarts : Option (List ℕ) → Option Files → Result ℕ Fault → (old new : Shown) → (i j u v : ℕ) → Type 0
  TellsStarts bytes tree answer old new i j u v = IfSome bytes (λ input. IfSome tree (λ files.
      Taken (StartsRuns n name files) answer old new i j u v))

  -- the parts were not counted
  pub starts_stopped : (bytes : Option (List ℕ)) (tree : Option Files) (f : Fault) (answer : Result ℕ Fault)
      (old new : Shown) (i j u v : ℕ) → Counted n name tree u v (Err f) → IsErrAnd answer (λ g. g ≡ f) → new ≡ old
      → j ≡ i → TellsStarts bytes tree answer old new i j u v
  starts_stopped None tree f answer old new i j u v counted stopped none still = tt
  starts_stopped (Some input) None f answer old new i j u v counted stopped none still = tt
  starts_stopped (Some input) (Some files) f answer old new i j u v counted stopped none still =
      Taken-refused (StartsRuns n name files) false (files name) f answer old new i j u v
      (inl (unread_by false name (files name) (trouble_of f) counted.0)) stopped none
      (Counted-file (files name) (trouble_of f) i j u v still counted.1)

  -- their first chunks were printed, or a write failed
  pub starts_printed : (bytes : Option (List ℕ)) (tree : Option Files) (count : ℕ) (answer : Result ℕ Fault)
      (old new : Shown) (i j u v : ℕ) → Counted n name tree u v (Ok count) → j ≡ i
      → MatchResult answer (λ s. (s ≡ 0) × Done old new (start_lines n count))
      (λ fault. (trouble_of fault ≡ cannot_write) × Failed old new (start_lines n count))
      → TellsStarts bytes tree answer old new i j u v
  starts_printed None tree count answer old new i j u v counted still printed = tt
  starts_printed (Some input) None count answer old new i j u v counted still printed = tt
  starts_printed (Some input) (Some files) count answer old new i j u v counted still printed =
      Taken-said (StartsRuns n name files) (start_lines n count) answer old new i j u v
      (λ run told. inr (runs (files name) run counted.0 told)) printed (Counted-none i j u v still counted.1)
    where
      runs : (content : Option (List ℕ)) (run : Run) → IsSomeAnd content (λ m. count ≡ part_count n m)
          → Prints (start_lines n count) 0 run → IsSomeAnd content (λ m. Prints (start_lines n (part_count n m)) 0 run)
      runs None run is prints = is
      runs (Some m) run is prints = subst (λ (k : ℕ). Prints (start_lines n k) 0 run) is prints
