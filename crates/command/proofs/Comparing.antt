-- The bytes of an output beside other bytes, piece by piece.
use Rattle.std.proofs.lemmas.Grind.{common_steps}
use Rattle.std.proofs.Common.{◌≡◌, ◌≢◌, ◌∙◌, ℕ, ◌+◌, ◌++◌, List, length, ap, ap₂, arith, drop, length-append, refl, sym}
use Rattle.std.proofs.Common.{take}
use Rattle.std.specs.Prelude.{◌↔◌, ◌==◌, false, true}
use Rattle.std.proofs.lemmas.Bool.Decides.{nat_tests}
use Rattle.std.proofs.lemmas.List.{drop_at, take_at}
use Rattle.b3.specs.Bytes.{slice}
use Rattle.b3.specs.Node.{Node}
use Rattle.command.specs.inside.Keys.{IsWanted}
use Rattle.command.proofs.Digits.{slice-append}
use Rattle.command.proofs.Printing.{slice-length}

-- bytes of another length are others
pub other_length : (root : Node) (o n : ℕ) (wanted : List ℕ) → n ≢ length wanted
    → IsWanted wanted (slice root o n) false
other_length root o n wanted other = grind (arith, common_steps, slice-length)

-- no bytes are left
pub none_left : (root : Node) (o : ℕ) (rest : List ℕ) → (length rest == 0) ≡ true → slice root o (length rest) ≡ rest
unfolding slice
none_left root o rest e = grind (arith, common_steps, nat_tests)

-- a list that is cut, and the bytes from the place p on behind its front
module _ (root : Node) (o p : ℕ) (piece after rest : List ℕ) (whole : rest ≡ piece ++ after)
    (next : p ≡ o + length piece) where
  bytes-cut : slice root o (length rest) ≡ slice root o (length piece) ++ slice root p (length after)
  bytes-cut = rw (whole, length-append piece after, next) (slice-append root o (length piece) (length after))

  cut-same : slice root o (length rest) ≡ rest
      → slice root o (length piece) ++ slice root p (length after) ≡ piece ++ after
  cut-same same = sym bytes-cut ∙ same ∙ whole

  -- where the front is the same, the list is if what is behind is
  pub same_behind : slice root o (length piece) ≡ piece
      → (slice root p (length after) ≡ after) ↔ (slice root o (length rest) ≡ rest)
  same_behind front = (
    λ same. bytes-cut ∙ ap₂ (λ a b. a ++ b) front same ∙ sym whole,
    λ same. sym (drop_at _ (slice root p (length after)) (length piece) (slice-length root o (length piece)))
        ∙ ap (drop (length piece)) (cut-same same) ∙ drop_at piece after (length piece) refl,
  )

  -- where it is another, so is the list
  pub other_front : (slice root o (length piece) ≡ piece → ⊥) → slice root o (length rest) ≡ rest → ⊥
  other_front other same =
      other (sym (take_at (slice root o (length piece)) _ (length piece) (slice-length root o (length piece)))
      ∙ ap (take (length piece)) (cut-same same) ∙ take_at piece after (length piece) refl)
