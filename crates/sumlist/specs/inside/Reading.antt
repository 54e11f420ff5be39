-- A core read from its left: the entry that it states, if it states one.
use Rattle.std.specs.Prelude.{◌⊎◌, ◌≡◌, IsUtf8, ℕ, zero, suc, ◌+◌, ◌-◌, ◌*◌, Bool, false, List, [], ◌∷◌, ◌++◌}
use Rattle.std.specs.Prelude.{length, take, drop, if◌then◌else◌, ◌==◌, ◌&&◌, ◌||◌, Option, Some, None, codes}
use Rattle.std.specs.Prelude.{slice_index}
use Rattle.std.specs.Fmt.{decimal}
use Rattle.std.specs.Option.{option_and_then, option_map, option_or}
use Rattle.std.specs.Result.{result_ok}
use Rattle.std.specs.Str.{bytes_eq}
use Rattle.hex.specs.Hex.{decode_of}
use Rattle.hashes.specs.declared.alg.Alg.{Alg}
use Rattle.hashes.specs.declared.alg.Alg.TheVariants.{Blake2b, Blake2s}
use Rattle.hashes.specs.Digest.{digest_len}
use Rattle.hashes.specs.declared.alg.TheConstants.{BLAKE2B_LEN, BLAKE2S_LEN}
use Rattle.hashes.specs.declared.kind.Kind.{Kind}
use Rattle.hashes.specs.Kinds.{kind_labelled, longest}
use Rattle.sumlist.specs.Entry.{Listing, Fits}
use Rattle.sumlist.specs.inside.Body.{name_of}
use Rattle.sumlist.specs.inside.Labels.{sized_alg, closing}

-- a core that says nothing: there is none, or a comment
abbrev pub IsBlank : List ℕ → Type 0
IsBlank core = (core ≡ []) ⊎ (slice_index core 0 ≡ 35)

-- what stands before the first space, and what stands behind it
abbrev pub cut : List ℕ → Option (List ℕ × List ℕ)
cut [] = None
cut (c ∷ text) =
    if c == 32 then Some ([], text)
    else option_and_then (λ (p : List ℕ × List ℕ). Some (c ∷ p.0, p.1)) (cut text)

-- the number of bytes, up to a bound, whose bits these digits tell
abbrev pub bytes_told : List ℕ → ℕ → Option ℕ
bytes_told digits zero = None
bytes_told digits (suc n) = if bytes_eq digits (decimal (8 * suc n)) then Some (suc n) else bytes_told digits n

abbrev pub alg_told : (ℕ → Alg) → List ℕ → ℕ → Option Alg
alg_told of digits most = option_and_then (λ (n : ℕ). Some (of n)) (bytes_told digits most)

-- the algorithm whose label, without a number, this is
abbrev pub alg_whole : List ℕ → Option Alg
alg_whole label = option_map longest (kind_labelled label)

-- the algorithm that a label names
abbrev pub alg_labelled : List ℕ → Option Alg
alg_labelled label = option_or (alg_whole label) (
    if bytes_eq (take 8 label) (codes "BLAKE2b-") then alg_told Blake2b (drop 8 label) BLAKE2B_LEN
    else if bytes_eq (take 8 label) (codes "BLAKE2s-") then alg_told Blake2s (drop 8 label) BLAKE2S_LEN
    else None)

-- a body of so many bytes with the digits behind it, if there are so many
abbrev pub end_at : ℕ → List ℕ → ℕ → Option (List ℕ × List ℕ)
end_at size rest digits =
    if bytes_eq rest (take size rest ++ closing (drop (size + 4) rest)) && (length (drop (size + 4) rest) == digits)
    then Some (take size rest, drop (size + 4) rest)
    else None

abbrev pub end_cut : ℕ → List ℕ → Option (List ℕ × List ℕ)
end_cut digits rest = end_at (length rest - (digits + 4)) rest digits

-- an algorithm, a tag and a body
abbrev pub TextParts : Type 0
TextParts = Alg × List ℕ × List ℕ

abbrev pub with_tag : Alg → List ℕ → List ℕ → Option TextParts
with_tag alg digits body = option_and_then (λ (tag : List ℕ). Some (alg, tag, body)) (result_ok (decode_of digits))

-- a space or `*`
abbrev pub IsMark : ℕ → Type 0
IsMark mark = (mark ≡ 32) ⊎ (mark ≡ 42)

abbrev pub is_mark : ℕ → Bool
is_mark byte = (byte == 32) || (byte == 42)

-- digits, whose number and the kind name the algorithm, and a body
abbrev pub plain_at : Option Kind → List ℕ → List ℕ → Option TextParts
plain_at kind digits body = option_and_then (λ (alg : Alg). with_tag alg digits body) (sized_alg kind (length digits))

-- a label, which names the algorithm, and a body with its digits behind it
abbrev pub tagged_at : List ℕ → List ℕ → Option TextParts
tagged_at label rest = option_and_then (λ (alg : Alg). option_and_then
    (λ (p : List ℕ × List ℕ). with_tag alg p.1 p.0) (end_cut (2 * digest_len alg) rest)) (alg_labelled label)

-- what a word and the text behind its space say: a mark tells one form, a bracket the other
abbrev pub told_at : Option Kind → List ℕ → List ℕ → Option TextParts
told_at kind word [] = None
told_at kind word (mark ∷ rest) =
    if is_mark mark then plain_at kind word rest
    else if mark == 40 then tagged_at word rest
    else None

abbrev pub told_by : Option Kind → List ℕ → Option TextParts
told_by kind text = option_and_then (λ (p : List ℕ × List ℕ). told_at kind p.0 p.1) (cut text)

-- whether a core begins with a backslash, and the text behind it, or else the core
abbrev pub is_slashed : List ℕ → Bool
is_slashed [] = false
is_slashed (c ∷ text) = c == 92

abbrev pub unslashed : List ℕ → List ℕ
unslashed [] = []
unslashed (c ∷ text) = if c == 92 then text else c ∷ text

-- the entry of a form, whose body means a name
abbrev pub entry_of : Bool → TextParts → Option Listing
entry_of is_escaped f = option_and_then
    (λ (name : List ℕ). Some record { name = name; alg = f.0; tag = f.1 }) (name_of is_escaped f.2)

-- the entry that a core states
abbrev pub stated : Option Kind → List ℕ → Option Listing
stated kind core = option_and_then (entry_of (is_slashed core)) (told_by kind (unslashed core))

-- a core states an entry, whose name can be written
abbrev pub IsStated : Option Kind → List ℕ → Listing → Type 0
IsStated kind core e = (stated kind core ≡ Some e) × IsUtf8 e.name × Fits (2 * length e.tag) e.name
