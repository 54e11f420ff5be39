-- The three modes (the BLAKE3 paper, 2.3). Parameters are a list of numbers: the mode's flag (2.2), and then the eight
-- key words.
use Rattle.std.specs.Prelude.{ℕ, List, ◌∷◌, drop, slice_index}
use Rattle.words.specs.Tables.{iv32}
use Rattle.words.specs.Words.{words}
use Rattle.b3.specs.Node.{Node}
use Rattle.b3.specs.Tree.{tree}
use Rattle.b3.specs.Bytes.{slice}

-- the tree over a message under parameters, if its first chunk has the number c
abbrev pub tree_of : List ℕ → ℕ → List ℕ → Node
tree_of parameters c m = tree (drop 1 parameters) (slice_index parameters 0) c m

-- the root over a message under parameters
abbrev pub root_of : List ℕ → List ℕ → Node
root_of parameters m = tree_of parameters 0 m

-- the parameters of the mode hash: no flag, and the initial value
abbrev pub hash_parameters : List ℕ
hash_parameters = 0 ∷ iv32

-- the parameters of the mode keyed_hash: the flag KEYED_HASH, and the words of the key, the lowest byte first
abbrev pub keyed_parameters : List ℕ → List ℕ
keyed_parameters key = 16 ∷ words 4 8 key

-- the parameters of the mode derive_key over key material: DERIVE_KEY_MATERIAL, and the words of the key that a context
-- stands for
abbrev pub material_parameters : List ℕ → List ℕ
material_parameters key = 64 ∷ words 4 8 key

-- the key that a context stands for: the first 32 bytes of the output over the context, under DERIVE_KEY_CONTEXT and
-- the initial value
abbrev pub context_key : List ℕ → List ℕ
context_key context = slice (root_of (32 ∷ iv32) context) 0 32

-- the parameters of the mode derive_key, under a context
abbrev pub derive_parameters : List ℕ → List ℕ
derive_parameters context = material_parameters (context_key context)

-- the root over a message, in the mode hash
abbrev pub hash_root : List ℕ → Node
hash_root m = root_of hash_parameters m

-- the root over a message, in the mode keyed_hash, under a key
abbrev pub keyed_root : List ℕ → List ℕ → Node
keyed_root key m = root_of (keyed_parameters key) m

-- the root over a message, in the mode derive_key, under a context
abbrev pub derive_root : List ℕ → List ℕ → Node
derive_root context m = root_of (derive_parameters context) m
