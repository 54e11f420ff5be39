-- Lines in memory that is lent for them.
use Rattle.std.specs.Prelude.{◌≡◌, ◌≢◌, ℕ, ◌+◌, ◌*◌, List, Bool, true, false, length, Result, Ok, Err}
use Rattle.hashes.specs.declared.alg.Alg.{Alg}
use Rattle.hashes.specs.Digest.{digest_len}
use Rattle.sumlist.specs.Escape.{escaped, lead}
use Rattle.sumlist.specs.Filled.{HasLine, line_text}
use Rattle.sumlist.specs.Tagged.{tagged_len}
use Rattle.sumlist.specs.declared.filling.FillFault.{FillFault}
use Rattle.sumlist.specs.declared.filling.FillFault.TheVariants.{BadTag, NoLine, Length}

-- how many bytes the line of a name has, tagged or not, with its LF
abbrev pub line_len : Bool → Alg → List ℕ → ℕ
line_len true alg name = tagged_len alg name + 1
line_len false alg name = length (lead name) + 2 * digest_len alg + 2 + length (escaped name) + 1

-- such a line was written, or why none was
abbrev pub FillsEntry : {T : Type 0} → Result T FillFault → Alg → Bool → List ℕ → List ℕ → List ℕ → List ℕ → Type 0
FillsEntry (Ok _) alg is_tagged name tag old new = (length tag ≡ digest_len alg) × HasLine is_tagged alg name
    × (new ≡ line_text is_tagged (record { name = name; alg = alg; tag = tag }))
FillsEntry (Err BadTag) alg is_tagged name tag old new = (length tag ≢ digest_len alg) × (new ≡ old)
FillsEntry (Err NoLine) alg is_tagged name tag old new =
    (length tag ≡ digest_len alg) × (HasLine is_tagged alg name → ⊥) × (new ≡ old)
FillsEntry (Err Length) alg is_tagged name tag old new = (length tag ≡ digest_len alg) × HasLine is_tagged alg name
    × (length old ≢ line_len is_tagged alg name) × (new ≡ old)
