-- The runs of all shares of the parts of a file are one run.
use Rattle.std.proofs.Common.{◌≡◌, ◌∙◌, ◌++◌, ◌-◌, ◌*◌, ◌^◌, ◌≤◌, ℕ, zero, suc, max, List, [], ◌∷◌, length, map, ap}
use Rattle.std.proofs.Common.{ap₂, sym, refl, subst, arith, inl, inr, append-nil, Bool, true, false, if◌then◌else◌}
use Rattle.std.proofs.Common.{Option, Some, None, Err, codes, decimal, drop, nat_lt, take}
use Rattle.std.proofs.lemmas.Bool.Decides.{nat_tests}
use Rattle.std.proofs.lemmas.List.Elements.{All-weaker}
use Rattle.std.proofs.lemmas.Option.{same_Some}
use Rattle.std.specs.List.{AllByRecursion, AllZip, flat_map}
use Rattle.std.specs.Prelude.{◌⊎◌, IsSomeAnd, fold}
use Rattle.hex.proofs.HexLemmas.{decode_of-encode_lower}
use Rattle.hex.specs.Hex.{IsBytes, encode_lower}
use Rattle.b3.specs.Modes.{hash_parameters, tree_of}
use Rattle.b3.specs.Node.{cv}
use Rattle.b3.specs.declared.row.PartValue.{PartValue}
use Rattle.hashes.specs.declared.share.Share.{Share}
use Rattle.request.specs.CommandLine.{Text}
use Rattle.partlist.proofs.Parsing.{one_meaning}
use Rattle.partlist.proofs.Pieces.{word_bytes-bytes}
use Rattle.partlist.specs.Joined.{AllTell, AreInRow, TellsPart, bytes_of}
use Rattle.partlist.specs.PartLine.{line_of}
use Rattle.source.specs.Written.{Begins}
use Rattle.sumlist.proofs.SharedTexts.{Line, decimal_free, free_append, line_after, line_end, lined, lines-lined}
use Rattle.sumlist.proofs.SharedTexts.{literal}
use Rattle.sumlist.proofs.Shares.{every-map}
use Rattle.sumlist.proofs.Words.{InWord, digits_word}
use Rattle.sumlist.specs.Lines.{lines}
use Rattle.sumlist.specs.Report.{Files, verdict_text}
use Rattle.sumlist.specs.Shared.{every}
use Rattle.sumlist.specs.declared.verdict.Verdict.{Verdict}
use Rattle.sumlist.specs.declared.verdict.Verdict.TheVariants.{Differs, Matches, Missing, TooLong, Unreadable}
use Rattle.sumlist.specs.inside.Cut.{HasNo}
use Rattle.words.specs.Words.{word_bytes, words}
use Rattle.command.specs.Cutting.{EachRuns, lines_of, numbers_of}
use Rattle.command.specs.Laws.{AreOneRun, ComparedAreRun, PartsAreRun}
use Rattle.command.specs.Lines.{content_of, is_input}
use Rattle.command.specs.Run.{IsRefused, IsUnread, Run, cannot_write, of_name, prints, stops}
use Rattle.command.specs.Verifying.{Compares, VerifyEnds, VerifyRuns, verdict, verdict_line}
use Rattle.command.specs.Verifying as spec
use Rattle.command.proofs.EachPart.{each_line}
use Rattle.command.proofs.SharedChecks.{Ends, Quiet, quiet_ends, refused_stops, stopped}
use Rattle.command.proofs.Sharing.{Reached, below, highest, reached, status}
use Rattle.command.proofs.Turns.{every-all}

-- ---- lines, and the status of each

module _ {A : Type 0} (text : A → List ℕ) (line : (x : A) → Line (text x)) (code : A → ℕ) where
  abbrev said : A → List ℕ
  said x = (line x).line

  all_free : (xs : List A) → AllByRecursion (HasNo 10) (map said xs)
  all_free [] = tt
  all_free (x ∷ xs) = ((line x).free, all_free xs)

  all_lined : (xs : List A) → flat_map text xs ≡ lined (map said xs)
  all_lined [] = refl
  all_lined (x ∷ xs) = ap₂ (λ (a b : List ℕ). a ++ b) (line x).is (all_lined xs)

  lines_said : (xs : List A) → lines (flat_map text xs) ≡ map said xs
  lines_said xs = ap lines (all_lined xs) ∙ lines-lined (map said xs) (all_free xs)

  -- the run that prints the lines of some, with the greatest status of any
  abbrev pub printed : List A → Run
  printed xs = prints (flat_map text xs) (fold (λ s x. max s (code x)) 0 xs)

  -- one that has the status of one
  abbrev one : A → Run
  one x = prints [] (code x)

  greatest : (a : ℕ) (xs : List A) → fold (λ s x. max s (code x)) a xs ≡ max a (highest (map one xs))
  greatest a [] = omega arith
  greatest a (x ∷ xs) = let rest = greatest (max a (code x)) xs in omega (arith, rest)

  -- of the lines of that run shares print their own, and its status is the greatest of theirs
  abbrev pub AreOf : ℕ → List A → (ℕ → Run) → Type 0
  AreOf n xs shares = ((k : ℕ) → k ≤ n → (lines (shares k).text ≡ every n k (lines (printed xs).text))
      × (status (shares k) ≤ status (printed xs)))
      × ((k : ℕ) × (k ≤ n) × (status (shares k) ≡ status (printed xs)))

  pub are_of : (n : ℕ) (xs : List A) (shares : ℕ → Run)
      → ((k : ℕ) → k ≤ n → shares k ≡ printed (every n k xs)) → AreOf n xs shares
  are_of n xs shares are = (
    λ k within. (
      ap (λ (r : Run). lines r.text) (are k within) ∙ lines_said (every n k xs) ∙ sym (every-map said n k xs)
          ∙ ap (every n k) (sym (lines_said xs)),
      let least = below n k (map one xs) in omega (arith, whole, own k within, least),
    ),
    (w.k, w.within, let same = w.same in omega (arith, whole, own w.k w.within, same)),
  )
    where
      whole : status (printed xs) ≡ max 0 (highest (map one xs))
      whole = greatest 0 xs

      own : (k : ℕ) → k ≤ n → status (shares k) ≡ max 0 (highest (every n k (map one xs)))
      own k within = ap status (are k within) ∙ greatest 0 (every n k xs)
          ∙ ap (λ rs. max 0 (highest rs)) (sym (every-map one n k xs))

      w : Reached n (map one xs)
      w = reached n (map one xs)

-- ---- the lines of parts

abbrev pub Free : List ℕ → Type 0
Free t = HasNo 10 t

digits_free : (value : List ℕ) → IsBytes value → Free (encode_lower value)
digits_free value are = grind (arith, All-weaker, InWord, nat_tests, digits_word, decode_of-encode_lower)

line_free : (first : ℕ) (m : List ℕ) → Free (line_of first m)
line_free first m =
    let value : List ℕ = word_bytes 4 (cv (tree_of hash_parameters first m)) in
    let digits = free_append (32 ∷ []) (encode_lower value) (literal (32 ∷ []) refl)
    (digits_free value (word_bytes-bytes (cv (tree_of hash_parameters first m)))) in
    let count = free_append (decimal (length m)) (32 ∷ encode_lower value) (decimal_free (length m)) digits in
    let place = free_append (decimal first) (32 ∷ (decimal (length m) ++ 32 ∷ encode_lower value)) (decimal_free first)
    (free_append (32 ∷ []) (decimal (length m) ++ 32 ∷ encode_lower value) (literal (32 ∷ []) refl) count) in
    free_append (codes "sums-part-1 blake3 ") _ (literal (codes "sums-part-1 blake3 ") refl) place

each_is_line : (n : ℕ) (m : List ℕ) (i : ℕ) → Line (each_line n m i)
each_is_line n m i =
    let x : List ℕ = take (1024 * n) (drop (1024 * (n * i)) m) in
    record { line = line_of (n * i) x; is = refl; free = line_free (n * i) x }

verdict_end : (v : Verdict) → Line (verdict_text v)
verdict_end Matches = line_end (codes ": OK") refl
verdict_end Differs = line_end (codes ": FAILED") refl
verdict_end Missing = line_end (codes ": MISSING") refl
verdict_end Unreadable = line_end (codes ": UNREADABLE") refl
verdict_end TooLong = line_end (codes ": TOO LONG") refl

verdict_is_line : (m : List ℕ) (part : PartValue) → Line (verdict_line m part)
verdict_is_line m part = line_after (decimal part.first_chunk) _ (decimal_free part.first_chunk)
    (line_after (32 ∷ []) _ (literal (32 ∷ []) refl)
    (line_after (decimal part.len) _ (decimal_free part.len) (verdict_end (verdict m part).0)))

-- ---- `part --each`

module _ (chunks : ℕ) (name : Text) (files : Files) (input : List ℕ) where
  -- a share that reports nothing has printed all its lines
  pub record Printed (s : Share) (r : Run) : Type 0 where
    pub bytes : List ℕ
    pub is : content_of name input files ≡ Some bytes
    pub few : length bytes ≤ 2 ^ 64 - 1
    pub same : r ≡ prints (lines_of s chunks bytes) 0

  each_printed : (s : Share) (r : Run) → Quiet r → EachRuns s chunks name files input r → Printed s r
  each_printed s r quiet how = on (content_of name input files) refl how
    where
      ends : Ends r
      ends = quiet_ends r quiet

      on : (content : Option (List ℕ)) → content_of name input files ≡ content
          → IsUnread (is_input name) name content r
          ⊎ IsSomeAnd content (λ m. ((length m ≤ 2 ^ 64 - 1) × (r ≡ prints (lines_of s chunks m) 0))
          ⊎ (r ≡ record (stops cannot_write) { text = lines_of s chunks m; is_whole = false })
          ⊎ ((front : Text) × (stop : Run) × Begins front (lines_of s chunks m)
          × IsRefused (2 ^ 64 - 1) (is_input name) name (Some m) stop × (r ≡ record stop { text = front })))
          → Printed s r
      on content is (inl unread) = absurd (refused_stops 0 (is_input name) name content r (inl unread) ends)
      on None is (inr none) = absurd none
      on (Some m) is (inr (inl (few, same))) = record { bytes = m; is = is; few = few; same = same }
      on (Some m) is (inr (inr (inl same))) =
          absurd (stopped r cannot_write (ap (λ (x : Run). x.ending) same) ends)
      on (Some m) is (inr (inr (inr (front, stop, begins, refused, same)))) =
          absurd (refused_stops (2 ^ 64 - 1) (is_input name) name (Some m) stop refused
          (ends.0, sym (ap (λ (x : Run). x.ending) same) ∙ ends.1))

  pub each_are_run : AreOneRun (λ s. EachRuns s chunks name files input)
  each_are_run n shares did =
      let shown = are_of text line code n xs shares are in (printed text line code xs, whole, shown.0, shown.1)
    where
      first : Printed (record { others = n; waiting = 0 }) (shares 0)
      first = let its = did 0 (omega arith) in each_printed (record { others = n; waiting = 0 }) (shares 0) its.0 its.1

      xs : List ℕ
      xs = numbers_of chunks first.bytes

      text : ℕ → List ℕ
      text i = each_line chunks first.bytes i

      line : (i : ℕ) → Line (text i)
      line i = each_is_line chunks first.bytes i

      code : ℕ → ℕ
      code i = 0

      zero_code : (ys : List ℕ) → fold (λ s y. max s (code y)) 0 ys ≡ 0
      zero_code [] = refl
      zero_code (y ∷ ys) = zero_code ys

      are : (k : ℕ) → k ≤ n → shares k ≡ printed text line code (every n k xs)
      are k within =
          let its = did k within in
          let here = each_printed (record { others = n; waiting = k }) (shares k) its.0 its.1 in
          let same : here.bytes ≡ first.bytes = same_Some _ _ (sym here.is ∙ first.is) in
          here.same ∙ ap (λ m. prints (lines_of (record { others = n; waiting = k }) chunks m) 0) same
          ∙ ap (prints (flat_map text (every n k xs))) (sym (zero_code (every n k xs)))

      whole : EachRuns (record { others = 0; waiting = 0 }) chunks name files input (printed text line code xs)
      whole =
          let all : prints (flat_map text xs) 0 ≡ prints (flat_map text (every 0 0 xs)) 0
          = ap (λ ys. prints (flat_map text ys) 0) (sym (every-all xs)) in
          rw first.is (inr (inl (first.few, ap (prints (flat_map text xs)) (zero_code xs) ∙ all)))

pub parts_are_run : PartsAreRun
parts_are_run chunks name files input = each_are_run chunks name files input

-- ---- `part --verify`

-- a line describes one part, and lines describe one list of them
abbrev pub Same : PartValue → PartValue → Type 0
Same p q = (p.first_chunk ≡ q.first_chunk) × (p.len ≡ q.len) × (p.value ≡ q.value)

same_part : (line : List ℕ) (p q : PartValue) → TellsPart line p → TellsPart line q → Same p q
same_part line p q (v, t, is) (w, u, equal) =
    let one = one_meaning line _ _ _ _ v w t u in (one.0, one.1, is ∙ ap (words 4 8) one.2 ∙ sym equal)

same_parts : (ls : List (List ℕ)) (ps qs : List PartValue) → AllTell ls ps → AllTell ls qs → AllZip Same ps qs
same_parts [] [] [] t u = tt
same_parts [] [] (q ∷ qs) t u = absurd u
same_parts [] (p ∷ ps) qs t u = absurd t
same_parts (l ∷ ls) [] qs t u = absurd t
same_parts (l ∷ ls) (p ∷ ps) [] t u = absurd u
same_parts (l ∷ ls) (p ∷ ps) (q ∷ qs) (t, ts) (u, us) = (same_part l p q t u, same_parts ls ps qs ts us)

same_own : (n k : ℕ) (ps qs : List PartValue) → AllZip Same ps qs → AllZip Same (every n k ps) (every n k qs)
same_own n k [] [] same = tt
same_own n k [] (q ∷ qs) same = absurd same
same_own n k (p ∷ ps) [] same = absurd same
same_own n zero (p ∷ ps) (q ∷ qs) (one, same) = (one, same_own n n ps qs same)
same_own n (suc k) (p ∷ ps) (q ∷ qs) (one, same) = same_own n k ps qs same

module _ (m : List ℕ) where
  same_line : (p q : PartValue) → Same p q → verdict_line m p ≡ verdict_line m q
  same_line p q (first, len, value) = rw (first, len, value) refl

  same_code : (p q : PartValue) → Same p q → (verdict m p).1 ≡ (verdict m q).1
  same_code p q (first, len, value) = rw (first, len, value) refl

  same_texts : (ps qs : List PartValue) → AllZip Same ps qs → flat_map (verdict_line m) ps ≡ flat_map (verdict_line m)
      qs
  same_texts [] [] same = refl
  same_texts [] (q ∷ qs) same = absurd same
  same_texts (p ∷ ps) [] same = absurd same
  same_texts (p ∷ ps) (q ∷ qs) (one, same) =
      ap₂ (λ (a b : List ℕ). a ++ b) (same_line p q one) (same_texts ps qs same)

  same_status : (s : ℕ) (ps qs : List PartValue) → AllZip Same ps qs
      → fold (λ s part. max s (verdict m part).1) s ps ≡ fold (λ s part. max s (verdict m part).1) s qs
  same_status s [] [] same = refl
  same_status s [] (q ∷ qs) same = absurd same
  same_status s (p ∷ ps) [] same = absurd same
  same_status s (p ∷ ps) (q ∷ qs) (one, same) =
      ap (λ c. fold (λ s part. max s (verdict m part).1) (max s c) ps) (same_code p q one)
      ∙ same_status (max s (verdict m q).1) ps qs same

module _ (parts name : Text) (files : Files) (input : List ℕ) where
  -- a share that reports nothing has printed the verdicts on all its parts
  pub record Compared (s : Share) (r : Run) : Type 0 where
    pub list : List ℕ
    pub bytes : List ℕ
    pub listed : files parts ≡ Some list
    pub is : content_of name input files ≡ Some bytes
    pub told : List PartValue
    pub tells : AllTell (lines list) told
    pub row : AreInRow told
    pub few : nat_lt (bytes_of told) (length bytes) ≡ false
    pub same : let own = every s.others s.waiting told in
        r ≡ prints (flat_map (verdict_line bytes) own) (spec.status bytes own)

  compared : (s : Share) (r : Run) → Quiet r → VerifyRuns s parts name files input r → Compared s r
  compared s r quiet how = on (files parts) (content_of name input files) refl refl how
    where
      ends : Ends r
      ends = quiet_ends r quiet

      -- it cannot have ended with a trouble
      not_so : (t : ℕ × Text) → r.ending ≡ Err t → ⊥
      not_so t is = stopped r t is ends

      unread : (b : Bool) (named : Text) (content : Option (List ℕ)) (end : Run) (said : Text)
          → IsUnread b named content end → r ≡ record end { text = said } → ⊥
      unread b named content end said is same = refused_stops 0 b named content end (inl is)
          (ends.0, sym (ap (λ (x : Run). x.ending) same) ∙ ends.1)

      ended : (list m : List ℕ) → files parts ≡ Some list → content_of name input files ≡ Some m
          → (before after : List (List ℕ)) (told : List PartValue) → lines list ≡ before ++ after
          → AllTell before told → AreInRow told → (end : Run)
          → VerifyEnds parts name list m told (every s.others s.waiting told) after end
          → r ≡ record end { text = flat_map (verdict_line m) (every s.others s.waiting told) } → Compared s r
      ended list m listed is before after told split tells row end (inl (none, how)) same =
          all (nat_lt (bytes_of told) (length m)) refl how
        where
          all : (b : Bool) → nat_lt (bytes_of told) (length m) ≡ b
              → end ≡ (if b then stops (of_name name (codes ": bytes behind the last part\n"))
              else prints [] (spec.status m (every s.others s.waiting told))) → Compared s r
          all true more at = absurd (not_so _ (ap (λ (x : Run). x.ending) same ∙ ap (λ (x : Run). x.ending) at))
          all false few at = record {
            list = list;
            bytes = m;
            listed = listed;
            is = is;
            told = told;
            tells = subst (λ ls. AllTell ls told) (sym (split ∙ ap (λ ls. before ++ ls) none ∙ append-nil before))
                tells;
            row = row;
            few = few;
            same = same ∙ ap (λ (x : Run). let r : Run = record x {
              text = flat_map (verdict_line m) (every s.others s.waiting told);
            } in r) at;
          }
      ended list m listed is before after told split tells row end (inr (inl (line, rest, more, fault, wrong, how)))
          same =
          absurd (not_so _ (ap (λ (x : Run). x.ending) same ∙ ap (λ (x : Run). x.ending) how))
      ended list m listed is before after told split tells row end (inr (inr (inl none))) same =
          absurd (unread false parts (Some list) end _ none same)
      ended list m listed is before after told split tells row end (inr (inr (inr none))) same =
          absurd (unread (is_input name) name (Some m) end _ none same)

      on : (list content : Option (List ℕ)) → files parts ≡ list → content_of name input files ≡ content
          → IsUnread false parts list r ⊎ IsSomeAnd list (λ text. IsUnread (is_input name) name content r
          ⊎ IsSomeAnd content (λ m. Compares s parts name text m r)) → Compared s r
      on list content listed is (inl none) = absurd (refused_stops 0 false parts list r (inl none) ends)
      on None content listed is (inr none) = absurd none
      on (Some text) content listed is (inr (inl none)) =
          absurd (refused_stops 0 (is_input name) name content r (inl none) ends)
      on (Some text) None listed is (inr (inr none)) = absurd none
      on (Some text) (Some m) listed is (inr (inr (before, after, told, split, tells, row, inl same))) =
          absurd (not_so _ (ap (λ (x : Run). x.ending) same))
      on (Some text) (Some m) listed is (inr (inr (before, after, told, split, tells, row, inr (end, how, same)))) =
          ended text m listed is before after told split tells row end how same

  pub verify_are_run : AreOneRun (λ s. VerifyRuns s parts name files input)
  verify_are_run n shares did =
      let shown = are_of text line code n xs shares are in (printed text line code xs, whole, shown.0, shown.1)
    where
      first : Compared (record { others = n; waiting = 0 }) (shares 0)
      first = let its = did 0 (omega arith) in compared (record { others = n; waiting = 0 }) (shares 0) its.0 its.1

      xs : List PartValue
      xs = first.told

      text : PartValue → List ℕ
      text part = verdict_line first.bytes part

      line : (part : PartValue) → Line (text part)
      line part = verdict_is_line first.bytes part

      code : PartValue → ℕ
      code part = (verdict first.bytes part).1

      are : (k : ℕ) → k ≤ n → shares k ≡ printed text line code (every n k xs)
      are k within =
          let its = did k within in
          let here = compared (record { others = n; waiting = k }) (shares k) its.0 its.1 in
          let list : here.list ≡ first.list = same_Some _ _ (sym here.listed ∙ first.listed) in
          let same : here.bytes ≡ first.bytes = same_Some _ _ (sym here.is ∙ first.is) in
          let own = same_own n k here.told xs (same_parts (lines first.list) here.told xs
          (subst (λ t. AllTell (lines t) here.told) list here.tells) first.tells) in
          here.same
          ∙ ap (λ m. let ps = every n k here.told in prints (flat_map (verdict_line m) ps) (spec.status m ps)) same
          ∙ ap₂ prints (same_texts first.bytes (every n k here.told) (every n k xs) own)
          (same_status first.bytes 0 (every n k here.told) (every n k xs) own)

      whole : VerifyRuns (record { others = 0; waiting = 0 }) parts name files input (printed text line code xs)
      whole =
          let m : List ℕ = first.bytes in
          let end : Run = prints [] (spec.status m (every 0 0 xs)) in
          let is : end ≡ (if nat_lt (bytes_of xs) (length m)
          then stops (of_name name (codes ": bytes behind the last part\n")) else end) = rw first.few refl in
          let all : printed text line code xs ≡ printed text line code (every 0 0 xs)
          = ap (printed text line code) (sym (every-all xs)) in
          rw (first.listed, first.is) (inr (inr (
            lines first.list,
            [],
            xs,
            sym (append-nil (lines first.list)),
            first.tells,
            first.row,
            inr (end, inl (refl, is), all),
          )))

pub compared_are_run : ComparedAreRun
compared_are_run parts name files input = verify_are_run parts name files input
