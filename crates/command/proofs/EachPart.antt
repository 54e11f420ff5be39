-- The run of `part --each`.
use Rattle.std.proofs.lemmas.Grind.{common_steps}
use Rattle.std.proofs.Common.{◌≡◌, ◌∙◌, ℕ, zero, suc, ◌+◌, ◌-◌, ◌*◌, ◌/◌, ◌^◌, ◌<◌, ◌≤◌, List, [], ◌∷◌, ◌++◌, length}
use Rattle.std.proofs.Common.{min, take, drop, Option, Some, None, IfSome, Result, Ok, Err, Bool, true, false, refl}
use Rattle.std.proofs.Common.{sym, ap, inl, inr, subst, arith, length-drop}
use Rattle.std.proofs.KnownBytes.{Appends-nil}
use Rattle.std.proofs.Math.Nat.{div-le_self}
use Rattle.std.proofs.lemmas.Bool.{cases_lt}
use Rattle.std.proofs.lemmas.List.{length-take, take_all}
use Rattle.std.proofs.lemmas.Nat.{le-div}
use Rattle.std.proofs.lemmas.Result.{err_from_is_err_and}
use Rattle.std.specs.List.{flat_map, range_with_len}
use Rattle.std.specs.Borrow.{Bor}
use Rattle.std.specs.Option.{option_map_or}
use Rattle.std.specs.Prelude.{◌⊎◌, IsErrAnd, MatchOption}
use Rattle.b3.specs.Modes.{hash_parameters}
use Rattle.b3.specs.declared.row.PartValue.{PartValue}
use Rattle.b3.specs.Values.{IsValueOf}
use Rattle.hashes.specs.declared.share.Share.{Share}
use Rattle.request.specs.CommandLine.{Text}
use Rattle.partlist.specs.PartLine.{line_of}
use Rattle.source.proofs.Writing.{Writing, Writing-end, Writing-failed, Writing-step}
use Rattle.source.specs.Counts.{count_after}
use Rattle.source.specs.Written.{Done, Failed, Shown}
use Rattle.sumlist.specs.Report.{Files}
use Rattle.sumlist.specs.Shared.{every}
use Rattle.command.specs.Run.{Run, prints}
use Rattle.command.specs.Cutting.{EachRuns, lines_of, numbers_of}
use Rattle.command.specs.Lines.{content_of, is_input}
use Rattle.command.specs.inside.Seen.{Does}
use Rattle.command.specs.inside.Troubles.{Counted, MayFail, MayRefuse, Trouble, counts, failed_reads, failures_from}
use Rattle.command.specs.inside.Troubles.{out_of_memory, refusal, too_long, trouble_of}
use Rattle.command.specs.declared.fault.Fault.{Fault}
use Rattle.command.specs.declared.fault.Fault.TheVariants.{CannotWrite, OutOfMemory}
use Rattle.command.specs.inside.Cutting.{EachOf, PrintsEach, part_count, part_numbers}
use Rattle.command.specs.inside.Places.{EndsAt, TakesAt, after_part, first_bytes}
use Rattle.command.specs.inside.Reading.{failed}
use Rattle.command.proofs.Turns.{every-from}
use Rattle.command.proofs.CutParts.{IsLimit, told_line, too_long_for_a_number}
use Rattle.command.proofs.Named.{Named, plus_none}
use Rattle.command.proofs.Reading.{known}
use Rattle.command.proofs.Starting.{before_end, counts_none, counts_on, no_more}
use Rattle.command.proofs.Refused.{Does-printed, Does-refused, Does-unprinted, counts-replicate, refused_by, unprinted}
use Rattle.command.proofs.Refused.{unread_by}
use Rattle.command.proofs.Tagging.{Taken, Taken-refused}

-- ---- the parts

-- the line of the part of this number
abbrev pub each_line : ℕ → List ℕ → ℕ → Text
each_line n m i = line_of (n * i) (take (1024 * n) (drop (1024 * (n * i)) m)) ++ 10 ∷ []

-- the line that is written of a part is that of its bytes
line_is : (first : ℕ) (part : PartValue) (x : List ℕ) → part.first_chunk ≡ first → IsValueOf hash_parameters part x
    → told_line part ≡ line_of first x ++ 10 ∷ []
line_is first part x begins value = cc (begins, value.len, value.value)

-- a part is that of so many chunks of some bytes
abbrev pub IsPart : ℕ → ℕ → List ℕ → PartValue → Type 0
IsPart n i m part = (part.first_chunk ≡ n * i)
    × IsValueOf hash_parameters part (take (1024 * n) (drop (1024 * (n * i)) m))

module _ (n i : ℕ) (m : List ℕ) (part : PartValue) (some : 1 ≤ n) (within : n * i < 2 ^ 54) (is : IsPart n i m part)
  where
    -- how many bytes it has, and that none of them is beyond the longest message
    pub part_sizes : (part.len ≡ min (1024 * n) (length m - 1024 * (n * i))) × (1024 * (n * i) + part.len ≤ 2 ^ 64 - 1)
    part_sizes =
        let size = length-take (1024 * n) (drop (1024 * (n * i)) m) in
        let rest = length-drop (1024 * (n * i)) m in
        let len = is.1.len in
        let limit = part.placed.1 in
        let begins = is.0 in
        (omega (arith, size, rest, len), omega (arith, limit, begins))

    pub part_there : i < part_count n m
    part_there = on i within (part_sizes.0) (λ none. sym is.0 ∙ part.placed.0 none)
      where
        on : (j : ℕ) → n * j < 2 ^ 54 → part.len ≡ min (1024 * n) (length m - 1024 * (n * j))
            → (part.len ≡ 0 → n * j ≡ 0) → j < part_count n m
        on zero within len begin = omega arith
        on (suc k) within len begin =
            let later : 0 < n * suc k = omega (arith, some) in
            let any : 0 < part.len = above part.len (λ none. let first = begin none in omega (arith, later, first)) in
            let more = counts_on n (suc k) m some within (omega (arith, any, len)) in
            omega (arith, more)
          where
            above : (k : ℕ) → (k ≡ 0 → ⊥) → 0 < k
            above zero none = absurd (none refl)
            above (suc k) none = omega arith

-- ---- the parts of a share, from one of them on

-- their numbers, where so many others stand between two
abbrev pub own : ℕ → ℕ → List ℕ → ℕ → List ℕ
own o n m i = every o 0 (range_with_len i (part_count n m - i))

-- their lines
abbrev pub own_lines : ℕ → ℕ → List ℕ → ℕ → Text
own_lines o n m i = flat_map (each_line n m) (own o n m i)

own_first : (s : Share) (n : ℕ) (m : List ℕ) → every s.others s.waiting (numbers_of n m) ≡ own s.others n m s.waiting
own_first s n m = grind (arith, common_steps, every-from)

own_next : (o n : ℕ) (m : List ℕ) (i : ℕ) → i < part_count n m → own o n m i ≡ i ∷ own o n m (i + 1 + o)
own_next o n m i there = grind (arith, common_steps, every-from)

own_none : (o n : ℕ) (m : List ℕ) (i : ℕ) → part_count n m ≤ i → own o n m i ≡ []
own_none o n m i end = grind (arith, common_steps)

-- a number that does not fit a `u64` is that of no part, and neither is the greatest of them
few_parts : (n : ℕ) (m : List ℕ) → part_count n m ≤ 2 ^ 64 - 1
few_parts n m = grind (arith, common_steps, div-le_self)

own_stopping : (o n : ℕ) (m : List ℕ) (i j : ℕ) → j ≡ min (min (i + o) (2 ^ 64 - 1) + 1) (2 ^ 64 - 1)
    → own o n m (i + 1 + o) ≡ own o n m j
own_stopping o n m i j is = grind (arith, common_steps, few_parts, cases_lt, own_none)

-- ---- the lines so far

-- the parts that are left to a share from one on
abbrev pub left_of : ℕ → ℕ → Option (List ℕ) → ℕ → List ℕ
left_of o n content i = option_map_or (λ m. own o n m i) content []

-- of some content the lines of the parts before one were printed, and one file opened for each, and none failed; nothing
-- was printed without
pub record EachSoFar (s : Share) (n : ℕ) (content : Option (List ℕ)) (i : ℕ) (gives : ℕ → Type 0) (old new : Shown)
    (k l u v : ℕ) : Type 0 where
  pub at : gives (1024 * (n * i))
  pub some : 1 ≤ n
  pub near : s.others ≡ 0 → i < (2 ^ 54 - 1) / n + 1
  pub written : MatchOption content (new ≡ old) (λ m. Writing old new (lines_of s n m) (own_lines s.others n m i))
  pub opened : l + length (left_of s.others n content i)
      ≤ k + length (every s.others s.waiting (part_numbers n content))
  pub quiet : v ≡ u

-- what may be asked for next, where it is what follows or anything may be
pub go_to : (gives : ℕ → Type 0) (others i j : ℕ) (any : Bool) → (others ≡ 0) ⊎ (any ≡ true)
    → (any ≡ true → gives i → gives j) → gives i → (others ≡ 0 → i ≡ j) → gives j
go_to gives others i j any h moves at same = grind (arith, common_steps)

pub each_start : (s : Share) (n : ℕ) (content : Option (List ℕ)) (gives : ℕ → Type 0) (old : Shown) (k u : ℕ)
    (any : Bool) → 1 ≤ n → s.waiting ≤ s.others → (s.others ≡ 0) ⊎ (any ≡ true)
    → ((a b : ℕ) → any ≡ true → gives a → gives b) → gives 0
    → EachSoFar s n content s.waiting gives old old k k u u
each_start s n content gives old k u any some within share moves at = record {
  at = go_to gives s.others 0 (1024 * (n * s.waiting)) any share (moves 0 (1024 * (n * s.waiting))) at (λ alone.
      subst (λ (w : ℕ). 0 ≡ 1024 * (n * w)) (sym (first alone)) (omega arith));
  some = some;
  near = λ alone. let zero = first alone in omega (arith, zero);
  written = written content;
  opened = opened content;
  quiet = refl;
}
  where
    first : s.others ≡ 0 → s.waiting ≡ 0
    first alone = omega (arith, alone, within)

    written : (content : Option (List ℕ)) → MatchOption content (old ≡ old)
        (λ m. Writing old old (lines_of s n m) (own_lines s.others n m s.waiting))
    written None = refl
    written (Some m) = record {
      front = [];
      whole = ap (flat_map (each_line n m)) (own_first s n m);
      done = (refl, Appends-nil old.contents);
    }

    opened : (content : Option (List ℕ)) → k + length (left_of s.others n content s.waiting)
        ≤ k + length (every s.others s.waiting (part_numbers n content))
    opened None = omega arith
    opened (Some m) = let same = ap length (own_first s n m) in omega (arith, same)

few_numbers : (n i : ℕ) → 1 ≤ n → n * i < 2 ^ 54 → i < 2 ^ 54
few_numbers n i some within = grind (arith, common_steps)

-- the bytes that were asked for are those of the part
chunks_few : (n : ℕ) (limit : Option ℕ) (m : List ℕ) → IsLimit (Some n) limit
    → length (first_bytes limit m) ≤ 1024 * n → first_bytes limit m ≡ take (1024 * n) m
chunks_few n limit m is few = grind (arith, common_steps, take_all)

chunks_many : (n first : ℕ) (limit : Option ℕ) (m : List ℕ) → IsLimit (Some n) limit
    → min (1024 * n) (2 ^ 64 - 1 - 1024 * first) < length (first_bytes limit m)
    → 2 ^ 64 - 1 - 1024 * first < length m
chunks_many n first limit m is more = grind (arith, common_steps, length-take, too_long_for_a_number)

chunks_end : (n i : ℕ) (limit : Option ℕ) → IsLimit (Some n) limit
    → after_part (n * i) n limit ≡ 1024 * (n * (i + 1))
chunks_end n i limit is = grind (arith, common_steps)

-- beyond the last place of a part anything may be asked for, since there are other shares
pub each_far : {s : Share} {n : ℕ} {content : Option (List ℕ)} {i : ℕ} {gives : ℕ → Type 0} {old mid : Shown}
    {k l u v : ℕ} → EachSoFar s n content i gives old mid k l u v → (j : ℕ) (any : Bool)
    → (s.others ≡ 0) ⊎ (any ≡ true) → (any ≡ true → gives (1024 * (n * i)) → gives j)
    → (2 ^ 54 - 1) / n + 1 ≤ i → gives j
each_far so j any h moves end = grind (arith, common_steps)

module _ {s : Share} {n : ℕ} {content : Option (List ℕ)} {i : ℕ} {gives : ℕ → Type 0} {old mid : Shown}
    {k l u v : ℕ} (so : EachSoFar s n content i gives old mid k l u v) (name : Text) (h w : ℕ) (one : h ≤ l + 1) where
  -- what is to be shown of an answer
  abbrev pub Says : Result ℕ Fault → Shown → Type 0
  Says r new = PrintsEach s n name content r old new k h u w

  few_opens : h ≤ k + (length (every s.others s.waiting (part_numbers n content)) + 1)
  few_opens = let few = so.opened in omega (arith, few, one)

  -- a run was done, and so many reads or opens failed
  each_by : (r : Result ℕ Fault) (new : Shown) (run : Run) (lost : ℕ) → EachOf s n name content run → Does run r old new
      → run.notes ≡ [] → counts run.failures ≡ failures_from (is_input name) lost → w ≡ count_after v lost → Says r new
  each_by r new run lost is does quiet sum counted = record {
    printed = record {
      run = run;
      is_run = is;
      does = does;
      quiet = quiet;
      listed = 0;
      lost = failures_from (is_input name) lost;
      sum = sum ∙ plus_none (failures_from (is_input name) lost);
      list = omega arith;
      counted = (lost, refl, rw so.quiet at counted);
    };
    opened = few_opens;
  }

  -- the content was not had, or there is too much
  each_refused : (f : Fault) → MayRefuse (2 ^ 64 - 1) name content (trouble_of f)
      → w ≡ count_after v (failed_reads content (trouble_of f)) → Says (Err f) mid
  each_refused f may lost = on content refl so.written
    where
      b : Bool
      b = is_input name

      t : Trouble
      t = trouble_of f

      on : (c : Option (List ℕ)) → content ≡ c
          → MatchOption c (mid ≡ old) (λ m. Writing old mid (lines_of s n m) (own_lines s.others n m i))
          → Says (Err f) mid
      on None is none = each_by (Err f) mid (refusal b content t) (failed_reads content t)
          (λ input files same. inl (rw same (unread_by b name content t (why (rw is at may)))))
          (Does-refused t _ f (Err f) old mid refl refl none) refl
          (counts-replicate _ b) lost
        where
          why : MayRefuse (2 ^ 64 - 1) name None t → MayFail name (λ _. ⊥) t
          why (inl p) = inl p
          why (inr (inl p)) = inr (inl p)
          why (inr (inr p)) = absurd p.1
      on (Some m) is written =
          let stop : Run = refusal b (Some m) t in
          let refused = refused_by (2 ^ 64 - 1) b name (Some m) t (rw is at may) in
          each_by (Err f) mid (record stop { text = written.front }) (failed_reads (Some m) t) (λ input files same. inr
          (rw (same ∙ is) (inr (inr (written.front, stop, (own_lines s.others n m i, written.whole), refused, refl)))))
          (record { ending = refl; out = written.done; cut = λ e. cc }) refl (counts-replicate _ b) (rw is at lost)

  none_lost : (b : Bool) → counts [] ≡ failures_from b 0
  none_lost b = grind (arith, common_steps)

  -- all its lines were printed
  each_done : (new : Shown) (m : List ℕ) → content ≡ Some m → length m ≤ 2 ^ 64 - 1
      → Writing old new (lines_of s n m) []
      → w ≡ count_after v 0 → Says (Ok 0) new
  each_done new m is few written none = each_by (Ok 0) new (prints (lines_of s n m) 0) 0
      (λ input files same. inr (rw (same ∙ is) (inl (few, refl))))
      (Does-printed (lines_of s n m) 0 old new (Writing-end old new (lines_of s n m) written)) refl
      (none_lost (is_input name)) none

  -- a write of them failed
  each_cut : (new : Shown) (m : List ℕ) → content ≡ Some m → Failed old new (lines_of s n m) → w ≡ count_after v 0
      → Says (Err CannotWrite) new
  each_cut new m is failed none = each_by (Err CannotWrite) new (unprinted (lines_of s n m)) 0
      (λ input files same. inr (rw (same ∙ is) (inr (inl refl))))
      (Does-unprinted (lines_of s n m) [] CannotWrite old new refl failed) refl (none_lost (is_input name)) none

  -- beyond the last place of a part
  pub each_end : (b : Bor Text) (r : Result ℕ Fault) → b.now ≡ name → (2 ^ 54 - 1) / n + 1 ≤ i
      → EndsAt 0 (2 ^ 64 - 1) name (too_long b.now) content r v w → Says r mid
  each_end b r same end h = grind (arith, common_steps, each_refused, no_more, own_none, each_done)

  module _ (limit : Option ℕ) (is_limit : IsLimit (Some n) limit) (below : i < (2 ^ 54 - 1) / n + 1) where
    within : n * i < 2 ^ 54
    within = before_end n i below

    -- what an answer says of the part of this number
    abbrev pub Takes : Result (Option PartValue) Fault → Type 0
    Takes r = TakesAt (n * i) n limit name content r

    pub each_stopped : (f : Fault) (r : Result ℕ Fault) → IsErrAnd r (λ g. g ≡ f) → Takes (Err f)
        → w ≡ count_after v (failed_reads content (trouble_of f)) → Says r mid
    each_stopped f r stopped takes lost =
        let e = err_from_is_err_and r stopped in rw (e.1, e.2) (each_refused f (why takes) lost)
      where
        why : Takes (Err f) → MayRefuse (2 ^ 64 - 1) name content (trouble_of f)
        why (inr (inl p)) = inl p
        why (inr (inr (inl p))) = inr (inl p)
        why (inr (inr (inr p))) = absurd p
        why (inl (m, is, inl p)) = inr (inl p)
        why (inl (m, is, inr p)) =
            let rest = length-drop (1024 * (n * i)) m in
            let more = chunks_many n (n * i) limit (drop (1024 * (n * i)) m) is_limit p.1 in
            inr (inr (p.0, rw is (omega (arith, rest, more, within))))

    -- there is none
    pub each_ended : Takes (Ok None) → w ≡ count_after v 0 → Says (Ok 0) mid
    each_ended (inr e) none = absurd e
    each_ended (inl (m, is, (fits, it))) none =
        let rest = length-drop (1024 * (n * i)) m in
        let nothing = ap length (sym (chunks_few n limit (drop (1024 * (n * i)) m) is_limit fits) ∙ it.1) in
        let size = length-take (1024 * n) (drop (1024 * (n * i)) m) in
        let some = so.some in
        let end : length m ≤ 1024 * (n * i) = omega (arith, rest, nothing, size, some) in
        let few = counts_none n i m some end in
        let number : 1 ≤ i = one_of i it.0 in
        each_done mid m is (omega (arith, end, within)) (rw (own_none s.others n m i (omega (arith, few, number))) at
        (rw is at so.written)) none
      where
        one_of : (i : ℕ) → 0 < n * i → 1 ≤ i
        one_of zero later = absurd (omega (arith, later))
        one_of (suc k) later = omega arith

    module _ (part : PartValue) (takes : Takes (Ok (Some part))) (none : w ≡ count_after v 0) where
      -- it is that of its number
      found : (m : List ℕ) × (content ≡ Some m) × IsPart n i m part
      found = grind (arith, common_steps, chunks_few)

      abbrev m : List ℕ
      m = found.0

      abbrev next : ℕ
      next = i + 1 + s.others

      next_is : own s.others n m i ≡ i ∷ own s.others n m next
      next_is = own_next s.others n m i (part_there n i m part so.some within found.2)

      -- its line is the next
      line_next : own_lines s.others n m i ≡ told_line part ++ own_lines s.others n m next
      line_next = grind (arith, next_is, within)

      before : Writing old mid (lines_of s n m) (own_lines s.others n m i)
      before = rw found.1 at so.written

      pub each_unwritten : (new : Shown) (r : Result ℕ Fault) → IsErrAnd r (λ g. g ≡ CannotWrite)
          → Failed mid new (told_line part) → Says r new
      each_unwritten new r stopped failed =
          let e = err_from_is_err_and r stopped in
          rw (e.1, e.2) (each_cut new m found.1 (Writing-failed old mid new (lines_of s n m) (own_lines s.others n m i)
          (told_line part) (own_lines s.others n m next) line_next before failed) none)

      written : (new : Shown) → Done mid new (told_line part)
          → Writing old new (lines_of s n m) (own_lines s.others n m next)
      written new done = Writing-step old mid new (lines_of s n m) (own_lines s.others n m i) (told_line part)
          (own_lines s.others n m next) line_next before done

      -- it is not full, so it is the last
      pub each_last : (new : Shown) → part.len / 1024 < n → Done mid new (told_line part) → Says (Ok 0) new
      each_last new short done =
          let size = part_sizes n i m part so.some within found.2 in
          let len = size.0 in
          let limit = size.1 in
          let few : length m ≤ 1024 * (n * i) + part.len = omega (arith, len, short) in
          let count = counts_none n (i + 1) m so.some (omega (arith, few, short)) in
          each_done new m found.1 (omega (arith, few, limit)) (rw (own_none s.others n m next (omega (arith, count))) at
          (written new done)) none

      -- there may be one behind it
      pub each_more : (new : Shown) (j : ℕ) (any : Bool) (then_gives : ℕ → Type 0)
          → (s.others ≡ 0) ⊎ (any ≡ true) → ((a b : ℕ) → any ≡ true → then_gives a → then_gives b)
          → then_gives (after_part (n * i) n limit) → j ≡ min (min (i + s.others) (2 ^ 64 - 1) + 1) (2 ^ 64 - 1)
          → n ≤ part.len / 1024 → Done mid new (told_line part)
          → EachSoFar s n content j then_gives old new k h u w
      each_more new j any then_gives share moves at is full done =
          let some = so.some in
          let same = own_stopping s.others n m i j is in
          let most = (part_sizes n i m part some within found.2).1 in
          let few = so.opened in
          let quiet = so.quiet in
          let number = few_numbers n i some within in
          let one_more : s.others ≡ 0 → j ≡ i + 1 = λ alone. omega (arith, is, alone, number) in
          let last : i + 1 ≤ (2 ^ 54 - 1) / n = le-div (i + 1) (2 ^ 54 - 1) n some (omega (arith, full, most)) in
          let now = ap (λ c. length (left_of s.others n c i)) found.1 ∙ ap length next_is in
          let then = ap (λ c. length (left_of s.others n c j)) found.1 ∙ ap length (sym same) in
          record {
            at = go_to then_gives s.others (after_part (n * i) n limit) (1024 * (n * j)) any share
                (moves (after_part (n * i) n limit) (1024 * (n * j))) at
                (λ alone. chunks_end n i limit is_limit ∙ ap (λ (x : ℕ). 1024 * (n * x)) (sym (one_more alone)));
            some = some;
            near = λ alone. let next = one_more alone in omega (arith, next, last);
            written = rw found.1 (rw same at (written new done));
            opened = omega (arith, few, now, then, one);
            quiet = omega (arith, none, quiet);
          }

-- ---- the run

-- why the content was not had
pub each_unread : (s : Share) (n : ℕ) (name : Text) (b : Bool) (content : Option (List ℕ)) (t : Trouble)
    → b ≡ is_input name → MayFail name (λ _. ⊥) t → EachOf s n name content (refusal b content t)
each_unread s n name b content t same may = grind (arith, common_steps, unread_by)

module _ (s : Share) (n : ℕ) (name : Text) (first : Option (List ℕ)) (tree : Option Files) (r : Result ℕ Fault)
    (old new : Shown) where
  -- what is to be shown of it
  abbrev pub Each : (i j u v : ℕ) → Type 0
  Each i j u v = IfSome first (λ input. IfSome tree (λ files. Taken (EachRuns s n name files input) r old new i j u v))

  pub each_run : (i j u v : ℕ) → Named (EachOf s n name) name first tree r old new 0 0 i j u v → Each i j u v
  each_run i j u v named = grind (arith, common_steps, known, Taken, plus_none)

  -- memory ran out before
  pub each_starved : (i u : ℕ) → IsErrAnd r (λ g. g ≡ OutOfMemory) → new ≡ old → Each i i u u
  each_starved i u stopped none = known first (λ input q. known tree (λ files t.
      Taken-refused (EachRuns s n name files input) (is_input name) (content_of name input files) OutOfMemory r old new
      i i u u (inl (unread_by (is_input name) name (content_of name input files) out_of_memory (inl refl))) stopped none
      (nothing (is_input name))))
    where
      nothing : (b : Bool) → Counted (failures_from b 0) i i u u
      nothing true = (omega arith, omega arith)
      nothing false = (omega arith, omega arith)
