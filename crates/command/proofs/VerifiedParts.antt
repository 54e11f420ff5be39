-- The run of `part --verify`.
use Rattle.std.proofs.lemmas.Grind.{common_steps, flat_map-append}
use Rattle.std.proofs.Common.{◌≡◌, ◌∙◌, ℕ, ◌+◌, ◌-◌, ◌*◌, ◌≤◌, Bool, true, false, List, [], ◌∷◌, ◌++◌, length, max}
use Rattle.std.proofs.Common.{take, drop, Option, Some, None, IfSome, Result, Ok, Err, refl, sym, ap, subst, arith, suc}
use Rattle.std.proofs.Common.{inl, inr, append_assoc, append-nil, length-append, nat_lt, if◌then◌else◌}
use Rattle.std.proofs.KnownBytes.{Appends-nil}
use Rattle.std.proofs.lemmas.Bool.Decides.{nat_tests}
use Rattle.std.proofs.lemmas.List.{length-take}
use Rattle.std.proofs.lemmas.Result.{err_from_is_err_and}
use Rattle.std.specs.Borrow.{Bor}
use Rattle.std.specs.Prelude.{◌⊎◌, IsErrAnd}
use Rattle.std.specs.Fmt.{decimal}
use Rattle.std.specs.List.{flat_map}
use Rattle.std.specs.Str.{bytes_eq}
use Rattle.b3.specs.Modes.{hash_parameters, tree_of}
use Rattle.b3.specs.Node.{cv}
use Rattle.b3.specs.declared.row.PartValue.{PartValue}
use Rattle.hashes.specs.declared.share.Share.{Share}
use Rattle.request.specs.CommandLine.{Text}
use Rattle.partlist.proofs.Behind.{bytes_of-more}
use Rattle.partlist.proofs.Outcomes.{place_in_row}
use Rattle.partlist.proofs.Reading.{AllTell-more, row-is}
use Rattle.partlist.specs.Joined.{AllTell, AreInRow, bytes_of}
use Rattle.partlist.specs.declared.fault.JoinFault.{JoinFault}
use Rattle.partlist.specs.declared.fault.JoinFault.TheVariants.{Line, Read}
use Rattle.partlist.specs.declared.joining.Joiner.{Joiner}
use Rattle.partlist.specs.inside.Joiner.{HasJoined, JoinCounts}
use Rattle.partlist.specs.inside.Reader.{JoinsNext}
use Rattle.source.proofs.Writing.{Done-after, Failed-after}
use Rattle.source.specs.Counts.{count_after}
use Rattle.source.specs.Written.{Done, Failed, Shown}
use Rattle.sumlist.specs.Lines.{lines}
use Rattle.sumlist.specs.Report.{verdict_text}
use Rattle.sumlist.specs.Shared.{every}
use Rattle.sumlist.specs.declared.verdict.Verdict.{Verdict}
use Rattle.sumlist.specs.declared.verdict.Verdict.TheVariants.{Differs, Matches, Missing}
use Rattle.command.specs.Lines.{is_input}
use Rattle.command.specs.Run as run_ends
use Rattle.command.specs.Run.{Run, prints, stops}
use Rattle.command.specs.Verifying.{VerifyEnds, status, verdict, verdict_line}
use Rattle.command.specs.inside.Faults.{of_join}
use Rattle.command.specs.inside.Places.{EndsAt, TakesAt}
use Rattle.command.specs.inside.Seen.{Does}
use Rattle.command.specs.inside.Troubles.{MayFail, bad_line, bytes_behind, cannot_read, cannot_write, counts, Trouble}
use Rattle.command.specs.inside.Troubles.{failed_reads, failures_from, out_of_memory, plus, shown, trouble_of}
use Rattle.command.specs.inside.Verifying.{ComparesName, ComparesParts, status_of}
use Rattle.command.specs.declared.fault.Fault.{Fault}
use Rattle.command.proofs.EachPart.{go_to}
use Rattle.command.proofs.Refused.{Does-unprinted, unprinted}
use Rattle.command.proofs.Turns.{every-few, every-more, every-over, waits, waits-more, waits-none, waits-over}

-- ---- the verdict on a part

-- the verdict by whether the bytes end before the part, and whether they have its value
abbrev given : Bool → Bool → Verdict × ℕ
given short same = if short then (Missing, 1) else if same then (Matches, 0) else (Differs, 1)

abbrev is_short : List ℕ → PartValue → Bool
is_short m part = nat_lt (length m) (1024 * part.first_chunk + part.len)

abbrev has_value : List ℕ → PartValue → Bool
has_value m part = bytes_eq part.value (cv (tree_of hash_parameters part.first_chunk
    (take part.len (drop (1024 * part.first_chunk) m))))

-- the verdict without its status
abbrev pub mark : List ℕ → PartValue → Verdict
mark m part = (verdict m part).0

status_by : (short same : Bool) → (given short same).1 ≡ status_of (given short same).0
status_by short same = grind (arith, common_steps)

status_is : (m : List ℕ) (part : PartValue) → (verdict m part).1 ≡ status_of (mark m part)
status_is m part = status_by (is_short m part) (has_value m part)

-- the bytes at its place were not had
pub judged_fault : (part : PartValue) (room : ℕ) (name : Text) (m : List ℕ) (f : Fault)
    → (let r : Result (Option PartValue) Fault = Err f in
    TakesAt part.first_chunk room (Some part.len) name (Some m) r) → part.len ≤ 1024 * room
    → MayFail name (λ _. ⊥) (trouble_of f)
judged_fault part room name m f h enough = grind (arith, common_steps, length-take)

status-more : (m : List ℕ) (told : List PartValue) (part : PartValue)
    → status m (told ++ part ∷ []) ≡ max (status m told) (status_of (mark m part))
status-more m told part = grind (arith, common_steps, status_is)

lines_said : (m : List ℕ) (told : List PartValue) (part : PartValue)
    → flat_map (verdict_line m) (told ++ part ∷ []) ≡ flat_map (verdict_line m) told ++ verdict_line m part
lines_said m told part = grind (arith, common_steps, flat_map-append, append-nil)

-- the line that is written of a verdict
abbrev pub line_said : PartValue → Verdict → Text
line_said part v = decimal part.first_chunk ++ 32 ∷ (decimal part.len ++ verdict_text v)

-- ---- how far a run has come

-- of the lines of a text those were read that describe these parts, and these bytes of it are read ahead
pub record LinesRead (text : List ℕ) (joiner : Joiner) (front : List ℕ) (list : Option (List ℕ))
    (told : List PartValue) : Type 0 where
  pub before : List (List ℕ)
  pub rest : List ℕ
  pub list_is : list ≡ Some rest
  pub split : lines text ≡ before ++ lines (front ++ rest)
  pub tells : AllTell before told
  pub joined : HasJoined joiner told
  pub row : AreInRow told

by_lines : {text : List ℕ} {joiner : Joiner} {front : List ℕ} {list : Option (List ℕ)} {told : List PartValue}
    {s : Share} {run : Run} (m : List ℕ) (parts name : Text) (read : LinesRead text joiner front list told)
    → (let said = flat_map (verdict_line m) (every s.others s.waiting told) in
    (run ≡ record (stops run_ends.cannot_write) { text = said; is_whole = false })
    ⊎ ((end : Run) × VerifyEnds parts name text m told (every s.others s.waiting told) (lines (front ++ read.rest)) end
    × (run ≡ record end { text = said }))) → ComparesName s parts name text (Some m) run
by_lines {front = front} {told = told} m parts name read ends = grind (arith, common_steps)

-- these parts were compared and one file opened for each of the share, and none failed; so many are passed over before
-- its next
pub record SoFar (s : Share) (text m : List ℕ) (gives : ℕ → Type 0) (joiner : Joiner) (front : List ℕ)
    (list : Option (List ℕ)) (left : Share) (n : ℕ) (old new : Shown) (i j k l u v : ℕ) : Type 0 where
  pub told : List PartValue
  pub read : LinesRead text joiner front list told
  pub others : left.others ≡ s.others
  pub waiting : left.waiting ≡ waits s.others s.waiting told
  pub at : gives (bytes_of told)
  pub status_is : n ≡ status m (every s.others s.waiting told)
  pub written : Done old new (flat_map (verdict_line m) (every s.others s.waiting told))
  pub same : j ≡ i
  pub opened : l ≤ k + length (every s.others s.waiting told)
  pub quiet : v ≡ u

pub so_start : (s : Share) (text m : List ℕ) (gives : ℕ → Type 0) (joiner : Joiner) (front : List ℕ)
    (list : Option (List ℕ)) (old : Shown) (i k u : ℕ) → HasJoined joiner [] → front ≡ [] → list ≡ Some text → gives 0
    → SoFar s text m gives joiner front list s 0 old old i i k k u u
so_start s text m gives joiner front list old i k u joined none is at = record {
  told = [];
  read = record {
    before = [];
    rest = text;
    list_is = is;
    split = ap (λ (l : List ℕ). lines (l ++ text)) (sym none);
    tells = tt;
    joined = joined;
    row = row-is joiner.row [] joined.row;
  };
  others = refl;
  waiting = refl;
  at = at;
  status_is = refl;
  written = (refl, Appends-nil old.contents);
  same = refl;
  opened = omega arith;
  quiet = refl;
}

-- what the next line was found to be
abbrev pub Next : Joiner → Joiner → (front ahead : List ℕ) → (list after : Option (List ℕ))
    → Result (Option PartValue) JoinFault → Type 0
Next joiner next front ahead list after r = IfSome list (λ bytes. (left : List ℕ) × (after ≡ Some left)
    × ((parts : List PartValue) → HasJoined joiner parts → JoinsNext (front ++ bytes) parts next (ahead ++ left) r))

quiet_both : (b : Bool) → counts [] ≡ plus (failures_from false 0) (failures_from b 0)
quiet_both b = grind (arith, common_steps)

list_failed : (b : Bool) → counts (false ∷ []) ≡ plus (failures_from false 1) (failures_from b 0)
list_failed b = grind (arith, common_steps)

file_failed : (b : Bool) → counts (b ∷ []) ≡ plus (failures_from false 0) (failures_from b 1)
file_failed b = grind (arith, common_steps)

as_many : (ls : List (List ℕ)) (parts : List PartValue) → AllTell ls parts → length parts ≡ length ls
as_many [] [] tells = refl
as_many [] (part ∷ parts) tells = absurd tells
as_many (l ∷ ls) [] tells = absurd tells
as_many (l ∷ ls) (part ∷ parts) tells = ap suc (as_many ls parts tells.1)

-- the next line describes a part
pub record NextPart (text : List ℕ) (next : Joiner) (ahead : List ℕ) (after : Option (List ℕ)) (told : List PartValue)
    (part : PartValue) : Type 0 where
  pub read : LinesRead text next ahead after (told ++ part ∷ [])
  pub place : bytes_of told ≡ 1024 * part.first_chunk

module _ {s : Share} {text m : List ℕ} {gives : ℕ → Type 0} {joiner : Joiner} {front : List ℕ}
    {list : Option (List ℕ)} {left : Share} {n : ℕ} {old mid : Shown} {i j k l u v : ℕ}
    (so : SoFar s text m gives joiner front list left n old mid i j k l u v) where
  -- those of the parts that are the share's
  abbrev own : List PartValue
  own = every s.others s.waiting so.told

  abbrev said : Text
  said = flat_map (verdict_line m) own

  few_opens : (h : ℕ) → h ≤ l + 1 → h ≤ k + (length (every s.others s.waiting (lines text)) + 1)
  few_opens h one = grind (arith, common_steps, every-few, as_many)

  -- what was found behind the parts so far
  found : (next : Joiner) (ahead : List ℕ) (after : Option (List ℕ)) (r : Result (Option PartValue) JoinFault)
      → Next joiner next front ahead list after r
      → (rest : List ℕ) × (after ≡ Some rest) × JoinsNext (front ++ so.read.rest) so.told next (ahead ++ rest) r
  found next ahead after r line = let it = rw so.read.list_is at line in (it.0, it.1, it.2 so.told so.read.joined)

  -- ---- how a run ends, behind so many reads of the lines and opens and reads of the file that failed

  module _ {parts name : Text} where
    ends_by : (r : Result ℕ Fault) (end : Run) (a b x h w : ℕ) → VerifyEnds parts name text m so.told own
        (lines (front ++ so.read.rest)) end → Does (record end { text = said }) r old mid → end.notes ≡ []
        → counts end.failures ≡ plus (failures_from false a) (failures_from (is_input name) b) → x ≡ count_after j a
        → w ≡ count_after v b → h ≤ l + 1 → ComparesParts s parts name text m r old mid i x k h u w
    ends_by r end a b x h w ends does quiet sum p q one = record {
      compared = record {
        run = record end { text = said };
        is_run = by_lines m parts name so.read (inr (end, ends, refl));
        does = does;
        quiet = quiet;
        listed = a;
        lost = failures_from (is_input name) b;
        sum = sum;
        list = rw so.same at p;
        counted = (b, refl, rw so.quiet at q);
      };
      opened = few_opens h one;
    }

    ends_with : (f : Fault) (t : Trouble) (failures : List Bool) (a b x h w : ℕ) → trouble_of f ≡ t
        → VerifyEnds parts name text m so.told own (lines (front ++ so.read.rest))
        (record (stops (shown t)) { failures = failures })
        → counts failures ≡ plus (failures_from false a) (failures_from (is_input name) b) → x ≡ count_after j a
        → w ≡ count_after v b → h ≤ l + 1
        → (let r : Result ℕ Fault = Err f in ComparesParts s parts name text m r old mid i x k h u w)
    ends_with f t failures a b x h w is ends sum p q one =
        ends_by (Err f) (record (stops (shown t)) { failures = failures }) a b x h w ends
        (record { ending = ap (λ t. Err (shown t)) (sym is); out = so.written; cut = λ e. cc }) refl sum p q one

    -- the content is not had any more
    ends_unread : (f : Fault) (x h w : ℕ) → MayFail name (λ _. ⊥) (trouble_of f)
        → w ≡ count_after v (failed_reads (Some m) (trouble_of f)) → x ≡ j → h ≤ l + 1
        → (let r : Result ℕ Fault = Err f in ComparesParts s parts name text m r old mid i x k h u w)
    ends_unread f x h w (inl is) lost still one =
        ends_with f out_of_memory [] 0 0 x h w is (inr (inr (inr (inl refl)))) (quiet_both (is_input name))
        (omega (arith, still)) (rw is at lost) one
    ends_unread f x h w (inr (inl is)) lost still one =
        ends_with f (cannot_read name) (is_input name ∷ []) 0 1 x h w is (inr (inr (inr (inr refl))))
        (file_failed (is_input name)) (omega (arith, still)) (rw is at lost) one
    ends_unread f x h w (inr (inr e)) lost still one = absurd e

    pub says_unread : (f : Fault) (r : Result ℕ Fault) (x h w : ℕ) → IsErrAnd r (λ g. g ≡ f)
        → MayFail name (λ _. ⊥) (trouble_of f) → w ≡ count_after v (failed_reads (Some m) (trouble_of f)) → x ≡ j
        → h ≤ l + 1 → ComparesParts s parts name text m r old mid i x k h u w
    says_unread f r x h w stopped may lost still one =
        let e = err_from_is_err_and r stopped in rw (e.1, e.2) (ends_unread f x h w may lost still one)

    -- a line is wrong, or was not read
    pub says_fault : (next : Joiner) (ahead : List ℕ) (after : Option (List ℕ)) (f : Fault) (fault : JoinFault)
        (list_name : Bor Text) (x : ℕ) → list_name.now ≡ parts → f ≡ of_join fault list_name
        → Next joiner next front ahead list after (Err fault)
        → (let r : Result (Option PartValue) JoinFault = Err fault in JoinCounts r j x)
        → (let r : Result ℕ Fault = Err f in ComparesParts s parts name text m r old mid i x k l u v)
    says_fault next ahead after f Read list_name x same is line p =
        ends_with f (cannot_read parts) (false ∷ []) 1 0 x l v (ap trouble_of is ∙ ap cannot_read same)
        (inr (inr (inl (inr refl)))) (list_failed (is_input name)) p (omega arith) (omega arith)
    says_fault next ahead after f (Line number fault) list_name x same is line p =
        let stop = (found next ahead after (Err (Line number fault)) line).2 in
        ends_with f (bad_line parts (length so.told + 1) fault) [] 0 0 x l v
        (ap trouble_of is ∙ ap (λ (l : Text). bad_line l number fault) same
        ∙ ap (λ (k : ℕ). bad_line parts k fault) stop.3)
        (inr (inl (stop.0, stop.1, stop.2, fault, stop.4, refl))) (quiet_both (is_input name)) (omega (arith, p))
        (omega arith) (omega arith)

    -- the lines end, and the file has to
    pub says_end : (next : Joiner) (ahead : List ℕ) (after : Option (List ℕ)) (position x h w : ℕ) (b : Bor Text)
        (r : Result ℕ Fault) → b.now ≡ name → Next joiner next front ahead list after (Ok None)
        → ((ps : List PartValue) → HasJoined next ps → position ≡ bytes_of ps) → x ≡ j → h ≤ l + 1
        → (gives position → EndsAt n position name (bytes_behind b.now) (Some m) r v w)
        → ComparesParts s parts name text m r old mid i x k h u w
    says_end next ahead after position x h w b r same line count still one ends =
        on r (ends (subst gives (sym at) so.at))
      where
        none : front ++ so.read.rest ≡ []
        none = (found next ahead after (Ok None) line).2.0

        at : position ≡ bytes_of so.told
        at = count so.told (found next ahead after (Ok None) line).2.1

        on : (r : Result ℕ Fault) → EndsAt n position name (bytes_behind b.now) (Some m) r v w
            → ComparesParts s parts name text m r old mid i x k h u w
        on (Ok code) (is, few, quiet) =
            let place = at in
            let test : nat_lt (bytes_of so.told) (length m) ≡ false = grind (arith, nat_tests) in
            rw is (ends_by (Ok n) (prints [] (status m own)) 0 0 x h w (inl (ap lines none, rw test refl))
            (record { ending = ap Ok (sym so.status_is); out = so.written; cut = λ e. cc }) refl
            (quiet_both (is_input name)) (omega (arith, still)) quiet one)
        on (Err f) (inl (may, lost)) = ends_unread f x h w may lost still one
        on (Err f) (inr (is, more, quiet)) =
            let place = at in
            let test : nat_lt (bytes_of so.told) (length m) ≡ true = grind (arith, nat_tests) in
            ends_with f (bytes_behind name) [] 0 0 x h w (is ∙ ap bytes_behind same)
            (inl (ap lines none, rw test refl)) (quiet_both (is_input name)) (omega (arith, still)) quiet one

  -- ---- the next part

  pub next_part : (next : Joiner) (ahead : List ℕ) (after : Option (List ℕ)) (part : PartValue)
      → Next joiner next front ahead list after (Ok (Some part)) → NextPart text next ahead after so.told part
  next_part next ahead after part finds =
      let it = found next ahead after (Ok (Some part)) finds in
      let row = row-is next.row (so.told ++ part ∷ []) it.2.3.row in
      let at = (place_in_row 0 1024 so.told part [] row).0 in
      record {
        read = record {
          before = so.read.before ++ it.2.0 ∷ [];
          rest = it.0;
          list_is = it.1;
          split = so.read.split ∙ ap (λ ls. so.read.before ++ ls) it.2.1
              ∙ sym (append_assoc so.read.before (it.2.0 ∷ []) (lines (ahead ++ it.0)));
          tells = AllTell-more so.read.before so.told it.2.0 part so.read.tells it.2.2;
          joined = it.2.3;
          row = row;
        };
        place = omega (arith, at);
      }

  module _ {next : Joiner} {ahead : List ℕ} {after : Option (List ℕ)} {part : PartValue}
      (np : NextPart text next ahead after so.told part) where
    pub gives_part : gives (1024 * part.first_chunk)
    gives_part = subst gives np.place so.at

    module _ (later : Share) (others : later.others ≡ left.others) (x : ℕ) (still : x ≡ j) where
      -- it is not the share's
      pub so_over : (any : Bool) → (s.others ≡ 0) ⊎ (any ≡ true) → ((a b : ℕ) → any ≡ true → gives a → gives b)
          → s.waiting ≤ s.others → (left.waiting ≡ 0 → ⊥) → later.waiting ≡ left.waiting - 1
          → SoFar s text m gives next ahead after later n old mid i x k l u v
      so_over any share moves within other less =
          let over : waits s.others s.waiting so.told ≡ 0 → ⊥ = λ none. other (so.waiting ∙ none) in
          let same = every-over s.others s.waiting so.told part over in record {
            told = so.told ++ part ∷ [];
            read = np.read;
            others = others ∙ so.others;
            waiting = less ∙ ap (λ (k : ℕ). k - 1) so.waiting ∙ sym (waits-over s.others s.waiting so.told part over);
            at = go_to gives s.others (bytes_of so.told) (bytes_of (so.told ++ part ∷ [])) any share
                (moves (bytes_of so.told) (bytes_of (so.told ++ part ∷ []))) so.at (λ alone. absurd
                (over (waits-none so.told s.others s.waiting alone (omega (arith, alone, within)))));
            status_is = so.status_is ∙ ap (status m) (sym same);
            written = subst (λ parts. Done old mid (flat_map (verdict_line m) parts)) (sym same) so.written;
            same = still ∙ so.same;
            opened = subst (λ (ps : List PartValue). l ≤ k + length ps) (sym same) so.opened;
            quiet = so.quiet;
          }

      -- it is
      module _ (own_next : left.waiting ≡ 0) (h w : ℕ) (one : h ≤ l + 1) (judged : Verdict)
          (is_mark : judged ≡ mark m part) (none : w ≡ count_after v 0) (new : Shown) where
        now : waits s.others s.waiting so.told ≡ 0
        now = sym so.waiting ∙ own_next

        own_is : every s.others s.waiting (so.told ++ part ∷ []) ≡ own ++ part ∷ []
        own_is = every-more s.others s.waiting so.told part now

        line_is : line_said part judged ≡ verdict_line m part
        line_is = ap (line_said part) is_mark

        abbrev all : Text
        all = flat_map (verdict_line m) (every s.others s.waiting (so.told ++ part ∷ []))

        all_said : all ≡ said ++ verdict_line m part
        all_said = ap (flat_map (verdict_line m)) own_is ∙ lines_said m own part

        -- a write of its line failed
        pub says_unwritten : {parts name : Text} (f : Fault) (r : Result ℕ Fault) → IsErrAnd r (λ g. g ≡ f)
            → trouble_of f ≡ cannot_write → Failed mid new (line_said part judged)
            → ComparesParts s parts name text m r old new i x k h u w
        says_unwritten {parts} {name} f r stopped is failed =
            let e = err_from_is_err_and r stopped in
            rw (e.1, e.2) (record {
              compared = record {
                run = unprinted all;
                is_run = by_lines m parts name np.read (inl refl);
                does = Does-unprinted all [] f old new is (rw all_said (Failed-after old mid new said
                    (verdict_line m part) so.written (rw line_is at failed)));
                quiet = refl;
                listed = 0;
                lost = failures_from (is_input name) 0;
                sum = quiet_both (is_input name);
                list = (let same = still ∙ so.same in omega (arith, same));
                counted = (0, refl, (let quiet = so.quiet in omega (arith, none, quiet)));
              };
              opened = few_opens h one;
            })

        pub so_more : (then_gives : ℕ → Type 0) (code : ℕ) → code ≡ max n (status_of judged)
            → later.waiting ≡ left.others → then_gives (1024 * part.first_chunk + part.len)
            → Done mid new (line_said part judged)
            → SoFar s text m then_gives next ahead after later code old new i x k h u w
        so_more then_gives code is full at done =
            let count = ap length own_is ∙ length-append own (part ∷ []) in
            let few = so.opened in
            let quiet = so.quiet in
            let more = bytes_of-more so.told part in
            let place = np.place in record {
              told = so.told ++ part ∷ [];
              read = np.read;
              others = others ∙ so.others;
              waiting = full ∙ so.others ∙ sym (waits-more s.others s.waiting so.told part now);
              at = subst then_gives (omega (arith, more, place)) at;
              status_is = is ∙ ap (λ (x : Verdict). max n (status_of x)) is_mark
                  ∙ ap (λ (x : ℕ). max x (status_of (mark m part))) so.status_is
                  ∙ sym (status-more m own part) ∙ ap (status m) (sym own_is);
              written = subst (Done old new) (sym all_said)
                  (Done-after old mid new said (verdict_line m part) so.written (rw line_is at done));
              same = still ∙ so.same;
              opened = omega (arith, count, few, one);
              quiet = omega (arith, none, quiet);
            }
