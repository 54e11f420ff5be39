-- Worked values of the visible form of names, of where parts begin, and of the run over one list and those behind it,
-- computed: a wrong escape, digit or class of characters does not check, nor a part too many or too few.
use Rattle.std.proofs.Common.{◌≡◌, ℕ, ◌^◌, List, [], ◌∷◌, ◌++◌, None, Some, Err, true, refl, codes, inl, inr, replicate}
use Rattle.std.proofs.Common.{suc}
use Rattle.std.specs.Prelude.{◌+◌, ◌==◌, if◌then◌else◌}
use Rattle.std.specs.Char.{encode_utf8}
use Rattle.std.specs.Fmt.{digits}
use Rattle.std.specs.Str.{chars}
use Rattle.hex.specs.Hex.{encode_with}
use Rattle.hashes.specs.declared.kind.Kind.TheVariants.{Blake2b, Blake2s, Blake3, Sha256}
use Rattle.command.specs.inside.Cutting.{part_count, start_lines}
use Rattle.sumlist.specs.Report.{Meaning, foreign, keyed, malformed, no_lines, report_from, skipped, summary_of, told}
use Rattle.sumlist.specs.Report.{unkeyed}
use Rattle.sumlist.specs.declared.look.Look.TheVariants.{Digest, Marked, Nameless, Signed}
use Rattle.sumlist.specs.declared.summary.Summary.{Summary}
use Rattle.sumlist.specs.declared.verdict.Verdict.TheVariants.{Differs, Missing}
use Rattle.command.specs.inside.Faults.{hinted, noted}
use Rattle.command.specs.Run.{Run, end_of, followed, of_name, prints, stops}
use Rattle.command.specs.Visible.{visible}
use Rattle.command.specs.Walks.{Walk, WalksShare}

-- LF, CR, a backslash, ESC, TAB and DEL
visible_controls : visible (97 ∷ 10 ∷ 13 ∷ 92 ∷ 27 ∷ 9 ∷ 127 ∷ 98 ∷ []) ≡ codes "a\\n\\r\\\\\\x1b\\x09\\x7fb"
unfolding visible chars encode_with encode_utf8
visible_controls = refl

-- U+0080, U+009F, U+2028, U+2029, U+202A, U+202E, U+2066 and U+2069
visible_wide : visible ((0xc2 ∷ 0x80 ∷ 0xc2 ∷ 0x9f ∷ 0xe2 ∷ 0x80 ∷ 0xa8 ∷ 0xe2 ∷ 0x80 ∷ 0xa9 ∷ [])
    ++ (0xe2 ∷ 0x80 ∷ 0xaa ∷ 0xe2 ∷ 0x80 ∷ 0xae ∷ 0xe2 ∷ 0x81 ∷ 0xa6 ∷ 0xe2 ∷ 0x81 ∷ 0xa9 ∷ []))
    ≡ codes "\\x80\\x9f\\u{2028}\\u{2029}\\u{202a}\\u{202e}\\u{2066}\\u{2069}"
unfolding visible chars encode_with encode_utf8
visible_wide = refl

-- U+061C, U+200E and U+200F
visible_marks : visible (0xd8 ∷ 0x9c ∷ 0xe2 ∷ 0x80 ∷ 0x8e ∷ 0xe2 ∷ 0x80 ∷ 0x8f ∷ [])
    ≡ codes "\\u{061c}\\u{200e}\\u{200f}"
unfolding visible chars encode_with encode_utf8
visible_marks = refl

-- what stands beside those stays: U+00A0, U+061B, U+200D, U+2027, U+202F, U+2065, U+206A, and a character of four bytes
visible_plain : (let name : List ℕ = (32 ∷ 126 ∷ 0xc2 ∷ 0xa0 ∷ 0xd8 ∷ 0x9b ∷ 0xe2 ∷ 0x80 ∷ 0x8d ∷ [])
    ++ (0xe2 ∷ 0x80 ∷ 0xa7 ∷ 0xe2 ∷ 0x80 ∷ 0xaf ∷ 0xe2 ∷ 0x81 ∷ 0xa5 ∷ [])
    ++ (0xe2 ∷ 0x81 ∷ 0xaa ∷ 0xf0 ∷ 0x9f ∷ 0xa6 ∷ 0x80 ∷ []) in visible name ≡ name)
unfolding visible chars encode_utf8
visible_plain = refl

-- a name that would be a line of its own
told_example : (end_of (Err (of_name (120 ∷ 10 ∷ codes "sums: out of memory") (codes ": cannot read\n")))).1
    ≡ codes "sums: x\\nsums: out of memory: cannot read\n" ∷ []
unfolding visible chars encode_utf8
told_example = refl

-- where parts of two chunks begin: of no byte, of two chunks, and of a byte more
starts_of_none : start_lines 2 (part_count 2 []) ≡ codes "0\n"
unfolding digits
starts_of_none = refl

starts_of_one : start_lines 2 (part_count 2 (replicate 2048 0)) ≡ codes "0\n"
unfolding digits
starts_of_one = refl

starts_of_two : start_lines 2 (part_count 2 (replicate 2049 0)) ≡ codes "0\n2\n"
unfolding digits
starts_of_two = refl

-- of one chunk each, and of as many as the longest message has
starts_of_three : start_lines 1 (part_count 1 (replicate 3000 0)) ≡ codes "0\n1\n2\n"
unfolding digits
starts_of_three = refl

starts_of_all : start_lines (2 ^ 54) (part_count (2 ^ 54) (replicate 3000 0)) ≡ codes "0\n"
unfolding digits
starts_of_all = refl

-- a list that is not there, and behind it one with an untagged line, of which the numbers are told
followed_example : (let numbers : Summary = record no_lines { malformed = 1; foreign = 1; look = Some (Digest 64) } in
    let list : Run = record (prints (report_from (Some (codes "l")) 1 (foreign (Digest 64) ∷ [])) 1) {
      notes = noted (record { is_summed = true }) (Some (codes "l")) numbers ++ hinted (codes "l") (unkeyed None)
          numbers;
    } in followed (stops (of_name (codes "none") (codes ": cannot read\n"))) (followed list (prints [] 1)))
    ≡ record (prints (codes "l: line 1: MALFORMED\n") 1) {
      notes = codes "sums: none: cannot read\n"
          ∷ codes "sums: l: 0 OK, 0 failed, 0 missing, 0 unreadable, 0 too long, 1 malformed, 0 skipped\n"
          ∷ codes "sums: l: untagged lines need -a; 128 digits fit sha512 or blake2b\n" ∷ [];
    }
unfolding visible chars digits encode_utf8 report_from
followed_example = refl

-- numbers are gone through, of which 8 is passed over
abbrev numbered : Walk ℕ ℕ
numbered = record {
  step = λ x i run y. (run ≡ (if i == 8 then stops (1, codes "8\n") else prints ((48 + i) ∷ []) 0)) × (y ≡ suc x);
  broken = λ _. ⊥;
  ending = λ x status run. run ≡ prints [] status;
}

-- all of them, and the second half, where an empty line stands for it
walk_of_all : WalksShare true numbered (record { others = 0; waiting = 0 }) 0 (7 ∷ 8 ∷ 9 ∷ [])
    (record (prints (codes "79") 1) { notes = codes "sums: 8\n" ∷ [] })
walk_of_all = inr (
  _,
  _,
  1,
  (refl, refl),
  refl,
  (
    _,
    inr (
      _,
      _,
      2,
      (refl, refl),
      refl,
      (
        _,
        inr (
          _,
          _,
          3,
          (refl, refl),
          refl,
          (_, inl refl, refl),
        ),
        refl,
      ),
    ),
    refl,
  ),
)

walk_of_share : WalksShare true numbered (record { others = 1; waiting = 1 }) 0 (7 ∷ 8 ∷ 9 ∷ [])
    (record (prints (codes "\n") 1) { notes = codes "sums: 8\n" ∷ [] })
walk_of_share = inr (_, _, 1, (refl, refl), inl refl, (_, inl refl, refl))

-- skipped lines alone are no entries, and malformed ones beside them neither, but nothing is told of one beside an entry
hinted_example : hinted (codes "-") (unkeyed None) (summary_of (skipped ∷ [])) ≡ codes "sums: -: no entries\n" ∷ []
unfolding visible chars encode_utf8 summary_of
hinted_example = refl

hinted_malformed : hinted (codes "-") (unkeyed (Some Blake3)) (summary_of (skipped ∷ malformed ∷ malformed ∷ []))
    ≡ codes "sums: -: no line is an entry\n" ∷ []
unfolding visible chars encode_utf8 summary_of
hinted_malformed = refl

hinted_none : hinted (codes "-") (unkeyed (Some Blake3)) (summary_of (malformed ∷ told (codes "a") Differs ∷ [])) ≡ []
unfolding summary_of
hinted_none = refl

-- a line of another kind, beside one that is FAILED
hinted_kind : hinted (codes "-") (unkeyed (Some Blake3))
    (summary_of (foreign (Digest 1) ∷ told (codes "a") Differs ∷ []))
    ≡ codes "sums: -: digests of another length than those of -a\n" ∷ []
unfolding visible chars encode_utf8 summary_of
hinted_kind = refl

-- of several lines with a look the first is told, with and without a kind
hinted_md5 : hinted (codes "-") (unkeyed (Some Sha256))
    (summary_of (malformed ∷ foreign (Digest 16) ∷ foreign Marked ∷ foreign (Digest 64) ∷ []))
    ≡ codes "sums: -: looks like MD5, which sums does not have\n" ∷ []
unfolding visible chars encode_utf8 summary_of
hinted_md5 = refl

hinted_sha1 : hinted (codes "-") (unkeyed None) (summary_of (foreign (Digest 20) ∷ foreign (Digest 16) ∷ []))
    ≡ codes "sums: -: looks like SHA-1, which sums does not have\n" ∷ []
unfolding visible chars encode_utf8 summary_of
hinted_sha1 = refl

hinted_mark : hinted (codes "-") (unkeyed None) (summary_of (foreign Marked ∷ foreign (Digest 32) ∷ []))
    ≡ codes "sums: -: a line begins with a byte order mark\n" ∷ []
unfolding visible chars encode_utf8 summary_of
hinted_mark = refl

hinted_nameless : hinted (codes "-") (unkeyed (Some Sha256)) (summary_of (foreign Nameless ∷ []))
    ≡ codes "sums: -: a line has digits and no name\n" ∷ []
unfolding visible chars encode_utf8 summary_of
hinted_nameless = refl

-- a signed list has entries too
hinted_signed : hinted (codes "-") (unkeyed None) (summary_of (foreign Signed ∷ told (codes "a") Missing ∷ []))
    ≡ codes "sums: -: is signed, 'gpg -o LIST --verify' gives its text\n" ∷ []
unfolding visible chars encode_utf8 summary_of
hinted_signed = refl

-- lines that are FAILED, with skipped ones, where no line has another outcome
hinted_failed : hinted (codes "-") (unkeyed (Some Blake2s)) (summary_of (told (codes "a") Differs ∷ skipped ∷ []))
    ≡ codes "sums: -: all FAILED, untagged lines may need another -a\n" ∷ []
unfolding visible chars encode_utf8 summary_of
hinted_failed = refl

-- but not without a kind
hinted_tagged_lines : hinted (codes "-") (unkeyed None) (summary_of (told (codes "a") Differs ∷ [])) ≡ []
unfolding summary_of
hinted_tagged_lines = refl

hinted_both : hinted (codes "-") (unkeyed (Some Blake2b))
    (summary_of (told (codes "a") Differs ∷ told (codes "b") Missing ∷ [])) ≡ []
unfolding summary_of
hinted_both = refl

-- lines that are MISSING
hinted_missing : hinted (codes "-") (unkeyed None) (summary_of (skipped ∷ told (codes "a") Missing ∷ []))
    ≡ codes "sums: -: all MISSING, names count from the current folder\n" ∷ []
unfolding visible chars encode_utf8 summary_of
hinted_missing = refl

-- tags of one byte, whatever makes them: tagged lines are counted
abbrev tags : Meaning
tags = keyed 1 0 (λ m. m)

hinted_tagged : hinted (codes "-") tags
    (summary_of (foreign (Digest 32) ∷ told (codes "a") Differs ∷ foreign (Digest 20) ∷ []))
    ≡ codes "sums: -: tagged lines, which anyone can make: 2\n" ∷ []
unfolding visible chars digits encode_utf8 summary_of
hinted_tagged = refl

hinted_key : hinted (codes "-") tags (summary_of (told (codes "a") Differs ∷ []))
    ≡ codes "sums: -: all FAILED, -a or the key may be another\n" ∷ []
unfolding visible chars encode_utf8 summary_of
hinted_key = refl
