-- The line that describes a part of a file: where the part begins, how many bytes it has, and its chaining value
-- (docs/FORMAT.md, Lines of parts).
use Rattle.std.specs.Prelude.{◌≡◌, ℕ, List, ◌∷◌, ◌++◌, length, codes}
use Rattle.std.specs.Fmt.{decimal}
use Rattle.hex.specs.Hex.{IsBytes, encode_lower}
use Rattle.b3.specs.Modes.{hash_parameters, tree_of}
use Rattle.b3.specs.Node.{cv}
use Rattle.b3.specs.Parts.{IsPlacedAt}
use Rattle.words.specs.Words.{word_bytes}

-- the line without its LF: the version of the form, the tree, the number of the first chunk, the number of bytes, and
-- the bytes of the chaining value, the lowest of each word first
abbrev pub part_line : ℕ → ℕ → List ℕ → List ℕ
part_line first len value =
    codes "sums-part-1 blake3 " ++ (decimal first ++ 32 ∷ (decimal len ++ 32 ∷ encode_lower value))

-- the line of bytes that begin at this chunk, with the chaining value of their tree (the BLAKE3 paper, 2.1)
abbrev pub line_of : ℕ → List ℕ → List ℕ
line_of first m = part_line first (length m) (word_bytes 4 (cv (tree_of hash_parameters first m)))

-- the line says that `len` bytes from this chunk on, which can stand there, have this chaining value
pub record LineTells (line : List ℕ) (first len : ℕ) (value : List ℕ) : Type 0 where
  pub placed : IsPlacedAt first len
  pub bytes : IsBytes value
  pub sized : length value ≡ 32
  pub text : line ≡ part_line first len value
