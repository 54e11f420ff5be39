use Rattle.sumlist.proofs.Common.{◌≤◌, Fits, List, arith, length, refl, ℕ}
use Rattle.sumlist.proofs.EscapedNames.{length-escaped-least}
use Rattle.sumlist.proofs.filling.entry_len.Goals as goal

-- a name is no longer than its line
within : (digits : ℕ) (name : List ℕ) → Fits digits name → length name ≤ 65536
within digits name f = let least = length-escaped-least name in let all = f.within in omega (arith, least, all)

pub counted-requires-clause-small : goal.counted-requires-clause-small
counted-requires-clause-small c = within _ _ (c.if-not-fits.ensures.0 refl)
