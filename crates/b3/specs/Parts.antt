-- Parts of a message: the subtrees that can be hashed apart (the BLAKE3 paper, 2.1 and 5.3).
use Rattle.std.specs.Prelude.{◌≡◌, ℕ, ◌+◌, ◌-◌, ◌*◌, ◌/◌, ◌%◌, ◌^◌, ◌<◌, ◌≤◌, List, ◌++◌, codes}
use Rattle.std.specs.Fmt.{decimal}
use Rattle.b3.specs.Modes.{hash_parameters, keyed_parameters, material_parameters}
use Rattle.b3.specs.declared.mode.Mode.{Mode}
use Rattle.b3.specs.declared.mode.Mode.TheVariants.{Hash, Keyed, Material}

-- the parameters of a mode
abbrev pub mode_parameters : Mode → List ℕ
mode_parameters Hash = hash_parameters
mode_parameters (Keyed key) = keyed_parameters key
mode_parameters (Material key) = material_parameters key

-- how a mode is shown
abbrev pub mode_name : Mode → List ℕ
mode_name Hash = codes "Hash"
mode_name (Keyed key) = codes "Keyed"
mode_name (Material key) = codes "Material"

-- how a part is shown: its mode, its first chunk and how many bytes it has
abbrev pub part_text : Mode → ℕ → ℕ → List ℕ
part_text mode first len = codes "Part { mode: " ++ (mode_name mode
    ++ (codes ", first_chunk: " ++ (decimal first ++ (codes ", len: " ++ (decimal len ++ codes " }")))))

-- p is the least power of two that is at least n
abbrev pub IsLeastPowerFrom : ℕ → ℕ → Type 0
IsLeastPowerFrom p n = (e : ℕ) × (p ≡ 2 ^ e) × (n ≤ p) × (p < 2 * n)

-- n bytes from chunk c on can be one subtree of a message: c is a multiple of the least power of two that is at least
-- their number of chunks, n is 0 only at the start, and they end within the limit
abbrev pub IsPlacedAt : ℕ → ℕ → Type 0
IsPlacedAt c n = (n ≡ 0 → c ≡ 0) × (1024 * c + n ≤ 2 ^ 64 - 1)
    × ((p : ℕ) → IsLeastPowerFrom p ((n - 1) / 1024 + 1) → c % p ≡ 0)

-- n bytes from chunk c on and k bytes from chunk d on are the two halves of a subtree: the first are p full chunks,
-- where p is a power of two and c is a multiple of 2 p; the second begin where the first end, and have at most p chunks
abbrev pub AreNeighbours : (c n d k : ℕ) → Type 0
AreNeighbours c n d k =
    (e : ℕ) × (n ≡ 1024 * 2 ^ e) × (c % (2 * 2 ^ e) ≡ 0) × (d ≡ c + 2 ^ e) × (k ≤ 1024 * 2 ^ e)

-- k bytes from chunk d on come next in a row of parts that begins at chunk c and has n bytes, `last` of them in its
-- last part: they begin where the row ends, that part has a power of two of full chunks, and the bytes of the row and
-- these can be a part
abbrev pub IsNextInRow : (c n last d k : ℕ) → Type 0
IsNextInRow c n last d k = (1024 * d ≡ 1024 * c + n) × ((e : ℕ) × (last ≡ 1024 * 2 ^ e)) × IsPlacedAt c (n + k)
