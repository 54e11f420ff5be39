-- Lines that name their algorithm: `LABEL (name) = digits` (docs/FORMAT.md, Grammar: the table of labels).
use Rattle.std.specs.Prelude.{◌⊎◌, ◌≡◌, ℕ, ◌+◌, ◌*◌, List, [], ◌∷◌, ◌++◌, length, codes}
use Rattle.std.specs.Fmt.{decimal}
use Rattle.hex.specs.Hex.{encode_lower}
use Rattle.hashes.specs.declared.alg.Alg.{Alg}
use Rattle.hashes.specs.declared.alg.Alg.TheVariants.{Blake2b, Blake2s}
use Rattle.hashes.specs.Digest.{digest_len}
use Rattle.hashes.specs.Kinds.{label_of}
use Rattle.sumlist.specs.Escape.{escaped, lead}
use Rattle.sumlist.specs.Entry.{Listing}

-- a label that names an algorithm: the written one, or for a whole tag of BLAKE2 also the one with the number of its
-- bits
abbrev pub IsLabel : List ℕ → Alg → Type 0
IsLabel label (Blake2b n) = (label ≡ label_of (Blake2b n)) ⊎ (label ≡ codes "BLAKE2b-" ++ decimal (8 * n))
IsLabel label (Blake2s n) = (label ≡ label_of (Blake2s n)) ⊎ (label ≡ codes "BLAKE2s-" ++ decimal (8 * n))
IsLabel label alg = label ≡ label_of alg

-- the tagged line of an entry, without its LF
abbrev pub tagged_line : Listing → List ℕ
tagged_line e =
    lead e.name ++ (label_of e.alg ++ (codes " (" ++ (escaped e.name ++ (codes ") = " ++ encode_lower e.tag))))

-- the tagged line with its LF
abbrev pub tagged : Listing → List ℕ
tagged e = tagged_line e ++ 10 ∷ []

-- the length of the tagged line of an algorithm and a name
abbrev pub tagged_len : Alg → List ℕ → ℕ
tagged_len alg name = length (lead name) + length (label_of alg) + 2 + length (escaped name) + 4 + 2 * digest_len alg
