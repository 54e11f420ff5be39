use Rattle.std.proofs.Common.{List, Option, arith, length, ℕ, ◌≡◌, ◌≤◌}
use Rattle.hashes.specs.declared.kind.Kind.{Kind}
use Rattle.sumlist.proofs.EscapedNames.{length-escaped-least}
use Rattle.sumlist.specs.Entry.{Fits, Listing}
use Rattle.sumlist.specs.Line.{Spells}
use Rattle.listing.specs.Line.{HasEntry, Means}
use Rattle.listing.specs.declared.line.ListLine.{ListLine}
use Rattle.listing.specs.declared.line.TheConstants.{LINE_ENTRY}
use Rattle.listing.proofs.line.read_line.Goals as goal

-- a name that fits a line is no longer than a line
within : (digits : ℕ) (name : List ℕ) → Fits digits name → length name ≤ 65536
within digits name fits = let least = length-escaped-least name in let most = fits.within in omega (arith, least, most)

means_entry : (text : List ℕ) (kind : Option Kind) (l : ListLine) (e : Listing) → l.kind ≡ LINE_ENTRY
    → Spells text kind e → HasEntry l e → Means text kind l
means_entry text kind l e is spells has = record {
  some = (omega arith, omega arith);
  skipped = λ other. absurd (omega arith);
  malformed = λ other. absurd (omega arith);
  untagged = λ other. absurd (omega arith);
  entry = λ _. (e, spells, has);
}

pub put_entry-requires : goal.put_entry-requires
put_entry-requires c = let said = c.in-Entry.ensures in (said.0, said.1, within _ said.0 said.2.is_entry.fits)

pub returns-in-Entry-clause-means : goal.returns-in-Entry-clause-means
returns-in-Entry-clause-means c =
    let said = c.in-Entry.ensures in
    means_entry _ _ _ _ c.put_entry.ensures.kind said.2 (c.put_entry.ensures.entry said.0 said.1)
