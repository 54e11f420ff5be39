-- The line of an entry, untagged or tagged (docs/FORMAT.md, What is written).
use Rattle.std.specs.Prelude.{ℕ, ◌*◌, ◌≤◌, List, Bool, true, false, IsUtf8}
use Rattle.hashes.specs.declared.alg.Alg.{Alg}
use Rattle.hashes.specs.Digest.{digest_len}
use Rattle.sumlist.specs.Entry.{Listing, Fits, written}
use Rattle.sumlist.specs.Lines.{line_limit}
use Rattle.sumlist.specs.Tagged.{tagged, tagged_len}

-- the line of an entry, tagged or not, with its LF
abbrev pub line_text : Bool → Listing → List ℕ
line_text true e = tagged e
line_text false e = written e

-- a name that has such a line
abbrev pub HasLine : Bool → Alg → List ℕ → Type 0
HasLine true alg name = IsUtf8 name × Fits (2 * digest_len alg) name × (tagged_len alg name ≤ line_limit)
HasLine false alg name = IsUtf8 name × Fits (2 * digest_len alg) name
