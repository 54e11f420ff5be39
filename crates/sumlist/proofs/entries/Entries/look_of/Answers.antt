use Rattle.sumlist.proofs.Common.{◌≡◌, List, Listing, None, Option, Some, Spells, keyed, length, ℕ}
use Rattle.std.specs.Prelude.{MatchOption}
use Rattle.sumlist.specs.declared.look.Look.{Look}
use Rattle.sumlist.specs.declared.look.Look.TheVariants.{Digest}
use Rattle.sumlist.specs.inside.Looks.{IsLook}
use Rattle.sumlist.proofs.entries.Entries.look_of.Goals as goal

tagged_is : (n limit : ℕ) (f : List ℕ → List ℕ) (line : List ℕ) (look : Option Look)
    → MatchOption look ((e : Listing) → Spells line None e → ⊥)
    (λ l. (e : Listing) × Spells line None e × (l ≡ Digest (length e.tag)))
    → IsLook (keyed n limit f) line look
tagged_is n limit f line None h = λ l t. h t.0 t.1
tagged_is n limit f line (Some l) h = h

pub of-requires : goal.of-requires
of-requires g c = rw c.in-Digests.is at c.requires

pub returns-in-Tags : goal.returns-in-Tags
returns-in-Tags g c =
    rw c.in-Tags.is (tagged_is c.in-Tags.field-0 (g.M.MakesTag.limit c.in-Tags.field-1.now)
    (g.M.MakesTag.makes c.in-Tags.field-1.now) _ _ c.tagged_look.ensures)
