-- A line of a list as plain numbers (docs/FORMAT.md, Grammar).
use Rattle.std.specs.Prelude.{◌≡◌, ◌≤◌, ℕ, List, Option, Some, take, length}
use Rattle.hashes.specs.Kinds.{alg_kind}
use Rattle.hashes.specs.declared.kind.Kind.{Kind}
use Rattle.sumlist.specs.Entry.{Listing}
use Rattle.sumlist.specs.Line.{IsMalformed, IsSkipped, IsUntagged, Spells}
use Rattle.listing.specs.Numbers.{number_of}
use Rattle.listing.specs.declared.line.ListLine.{ListLine}
use Rattle.listing.specs.declared.line.TheConstants.{LINE_ENTRY, LINE_MALFORMED, LINE_SKIPPED, LINE_UNTAGGED}

-- the numbers of an entry
pub record HasEntry (l : ListLine) (e : Listing) : Type 0 where
  pub hash : l.hash ≡ number_of (Some (alg_kind e.alg))
  pub digest : (l.digest_len ≡ length e.tag) × (take l.digest_len l.digest ≡ e.tag)
  pub name : (l.name_len ≡ length e.name) × (take l.name_len l.name ≡ e.name)

-- the numbers of an entry stay as they were
abbrev pub KeepsEntry : ListLine → ListLine → Type 0
KeepsEntry a b = (b.hash ≡ a.hash) × (b.digest_len ≡ a.digest_len) × (b.name_len ≡ a.name_len) × (b.digest ≡ a.digest)
    × (b.name ≡ a.name)

-- what a line means in a list whose untagged lines have this kind
pub record Means (text : List ℕ) (kind : Option Kind) (l : ListLine) : Type 0 where
  pub some : (LINE_SKIPPED ≤ l.kind) × (l.kind ≤ LINE_ENTRY)
  pub skipped : l.kind ≡ LINE_SKIPPED → IsSkipped text
  pub malformed : l.kind ≡ LINE_MALFORMED → IsMalformed text kind × (IsUntagged text kind → ⊥)
  pub untagged : l.kind ≡ LINE_UNTAGGED → IsUntagged text kind
  pub entry : l.kind ≡ LINE_ENTRY → (e : Listing) × Spells text kind e × HasEntry l e
