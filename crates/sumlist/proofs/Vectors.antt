-- Worked values of the definitions of lists, computed: a wrong escape, label, cut or number does not check.
use Rattle.hashes.specs.declared.alg.Alg.TheVariants.{Blake2b, Blake2s}
use Rattle.sumlist.proofs.Common.{◌≡◌, inr, [], ◌∷◌, ◌++◌, refl, arith, Missing, Listing, written, lines, skipped}
use Rattle.sumlist.proofs.Common.{malformed, told, foreign, HasForm, label_of, tagged, codes, None, Some}
use Rattle.std.specs.Fmt.{digits}
use Rattle.hex.specs.Hex.{encode_with, decode_pairs}
use Rattle.sumlist.specs.Report.{look_of, report_from}
use Rattle.sumlist.specs.declared.look.Look.TheVariants.{Digest, Marked, Nameless, Signed}
use Rattle.sumlist.proofs.Reading.{labelled_form}

-- BLAKE2b of "abc" with a digest of one byte, under a name with a backslash and an LF
abbrev example : Listing
example = record { name = 97 ∷ 92 ∷ 98 ∷ 10 ∷ []; alg = Blake2b 1; tag = 0x6b ∷ [] }

-- as `b2sum -l 8` writes it
written_example : written example ≡ (92 ∷ codes "6b  a") ++ (92 ∷ 92 ∷ 98 ∷ 92 ∷ 110 ∷ 10 ∷ [])
unfolding encode_with
written_example = refl

-- as `b2sum -l 8 --tag` writes it
tagged_example : tagged example
    ≡ (92 ∷ codes "BLAKE2b-8 (a") ++ (92 ∷ 92 ∷ 98 ∷ 92 ∷ 110 ∷ []) ++ codes ") = 6b" ++ 10 ∷ []
unfolding digits encode_with
tagged_example = refl

-- the greatest length goes without a number
label_of_512_bits : label_of (Blake2b 64) ≡ codes "BLAKE2b"
label_of_512_bits = refl

label_of_160_bits : label_of (Blake2s 20) ≡ codes "BLAKE2s-160"
unfolding digits
label_of_160_bits = refl

-- the name ends at the last bracket that digits follow
labelled_example : HasForm (codes "BLAKE2b-8 (a) = b) = 6B") None (Blake2b 1) (0x6b ∷ []) (codes "a) = b")
unfolding digits decode_pairs
labelled_example =
    labelled_form None (codes "BLAKE2b-8") (codes "6B") (Blake2b 1) (0x6b ∷ []) (codes "a) = b")
    (omega arith, omega arith) (inr refl) refl refl

-- an empty line in the middle counts, an empty last one does not
lines_example : lines (97 ∷ 10 ∷ 10 ∷ 98 ∷ 10 ∷ []) ≡ (97 ∷ []) ∷ [] ∷ (98 ∷ []) ∷ []
lines_example = refl

report_example : report_from None 1 (skipped ∷ malformed ∷ told (codes "x") Missing ∷ foreign (Digest 16) ∷ [])
    ≡ codes "line 2: MALFORMED" ++ 10 ∷ codes "x: MISSING" ++ 10 ∷ codes "line 4: MALFORMED" ++ 10 ∷ []
unfolding digits report_from
report_example = refl

-- of a list that is told by its name, `a` and an LF
named_example : report_from (Some (97 ∷ 10 ∷ [])) 1 (told (codes "x") Missing ∷ malformed ∷ [])
    ≡ codes "x: MISSING" ++ 10 ∷ codes "a\\n: line 2: MALFORMED" ++ 10 ∷ []
unfolding digits report_from
named_example = refl

-- what lines look like by their bytes
look_of_md5 : look_of (codes "MD5 (a) = 00") ≡ Some (Digest 16)
look_of_md5 = refl

look_of_sha1 : look_of (codes "SHA1 (a) = 00") ≡ Some (Digest 20)
look_of_sha1 = refl

look_of_mark : look_of (239 ∷ 187 ∷ 191 ∷ codes "00  a") ≡ Some Marked
look_of_mark = refl

look_of_signed : look_of (codes "-----BEGIN PGP SIGNED MESSAGE-----" ++ 13 ∷ []) ≡ Some Signed
look_of_signed = refl

look_of_digits : look_of (codes "0123456789abcdEF  " ++ 13 ∷ []) ≡ Some Nameless
look_of_digits = refl

look_of_few_digits : look_of (codes "0123456789abcdE  ") ≡ None
look_of_few_digits = refl

look_of_blanks : look_of (codes "  " ++ 13 ∷ []) ≡ None
look_of_blanks = refl

look_of_a_name : look_of (codes "00 a") ≡ None
look_of_a_name = refl
