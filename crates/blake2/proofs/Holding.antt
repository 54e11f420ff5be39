-- How the chaining value and the buffer follow the input as it grows.
use Rattle.std.proofs.lemmas.Grind.{common_steps}
use Rattle.std.proofs.Common.{◌≡◌, ℕ, zero, suc, false, true, ◌+◌, ◌-◌, ◌*◌, ◌<◌, ◌≤◌, List, [], ◌∷◌, ◌++◌, length}
use Rattle.std.proofs.Common.{take, drop, replicate, refl, sym, ap, ◌∙◌, arith, get_or, length-append, length-drop}
use Rattle.std.proofs.Common.{add-one, zero-add, append_assoc}
use Rattle.std.proofs.lemmas.List.{take-append-le, drop-append-le, take_all, drop_all, append-nil, take-append-drop}
use Rattle.std.proofs.lemmas.List.{length-take-le, take_more}
use Rattle.std.proofs.Math.Seq.{drop-append_seam}
use borrow.Rule.Slice.PartMut.{put_mid}
use Rattle.std.proofs.Math.Nat.{mul-le-mul_right, div-mul-le_self}
use Rattle.std.specs.List.{concat}
use Rattle.std.proofs.lemmas.List.Folds.{concat-append}
use Rattle.words.specs.Blake2.{compress}
use Rattle.words.specs.Mix.{Variant}
use Rattle.words.specs.Words.{words, padded}
use Rattle.blake2.specs.Blake2.{chain, block_len, word_len, block_words, block_count, final_value}
use Rattle.blake2.specs.inside.Held.{IsChained, IsHeld}
use Rattle.blake2.proofs.Blocks.{after_blocks, before_last, last_block, same_scale}

suc_mul : (n w : ℕ) → suc n * w ≡ n * w + w
suc_mul n w = omega arith

-- a block that lies in the input is not moved by what follows
block_words-append : (k : Variant) (p q : List ℕ) (n : ℕ) → suc n * block_len k ≤ length p
    → block_words k (p ++ q) n ≡ block_words k p n
block_words-append k p q n h = grind (arith, common_steps, suc_mul, length-drop, drop-append-le, take-append-le)

-- chain reads only the blocks that it counts
pub chain-append : (k : Variant) (s p q : List ℕ) (n : ℕ) → n * block_len k ≤ length p
    → chain k s (p ++ q) n ≡ chain k s p n
unfolding chain
chain-append k s p q zero h = refl
chain-append k s p q (suc n) h =
    let e : suc n * block_len k ≡ n * block_len k + block_len k = suc_mul n (block_len k) in
    rw (block_words-append k p q n h, chain-append k s p q n (omega arith)) refl

-- a whole block needs no padding
padded_whole : (n : ℕ) (x : List ℕ) → length x ≡ n → padded n x ≡ x
padded_whole n x h = grind (arith, common_steps, append-nil)

-- one more whole block
pub IsChained_next : (k : Variant) (s p h x h' : List ℕ) (n t : ℕ) → IsChained k s p h n → length x ≡ block_len k
    → t ≡ n * block_len k + block_len k → h' ≡ compress k h (words (word_len k) 16 x) t false
    → IsChained k s (p ++ x) h' (n + 1)
unfolding chain
IsChained_next k s p h x h' n t held len at e =
    let w : ℕ = block_len k in
    let total : length (p ++ x) ≡ (n + 1) * w = omega (arith, length-append p x, suc_mul n w) in
    let tail : drop (n * w) (p ++ x) ≡ x = rw (← held.0) (drop-append_seam p x) in
    let at' : t ≡ (n + 1) * w = omega (arith, suc_mul n w) in
    let next : chain k s (p ++ x) (suc n) ≡ compress k (chain k s (p ++ x) n) (words (word_len k) 16 x)
    ((n + 1) * w) false =
    rw (tail, take_all w x (omega arith), padded_whole w x len) refl in
    (total, rw (add-one, next, chain-append k s p x n (omega arith), ← held.1, ← at') e)

-- whole blocks as a loop takes them
pub IsChained_more : (k : Variant) (s p h h' x : List ℕ) (bs : List (List ℕ)) (n i t : ℕ)
    → IsChained k s (p ++ concat (take i bs)) h (n + i) → i < length bs → x ≡ get_or bs i x → length x ≡ block_len k
    → t ≡ (n + i) * block_len k + block_len k → h' ≡ compress k h (words (word_len k) 16 x) t false
    → IsChained k s (p ++ concat (take (i + 1) bs)) h' (n + (i + 1))
IsChained_more k s p h h' x bs n i t held lt is len at e =
    let grown : concat (take (i + 1) bs) ≡ concat (take i bs) ++ x =
    rw (take_more bs i x lt, ← is, concat-append (take i bs) (x ∷ []), append-nil) refl in
    let count : n + (i + 1) ≡ n + i + 1 = omega arith in
    rw (grown, count, ← append_assoc) (IsChained_next k s (p ++ concat (take i bs)) h x h' (n + i) t held len at e)

-- the buffer with zeros after its first bytes
pub zeros_after : (b z : List ℕ) (used j l n : ℕ) → length b ≡ n → used + j ≡ n → z ≡ replicate l 0 → l ≡ n - used
    → put_mid used j b z ≡ take used b ++ replicate (n - used) 0
zeros_after b z used j l n len ej ez el = grind (arith, common_steps, drop_all, length-drop, append-nil)

module _ (k : Variant) (s : List ℕ) (pos : 0 < block_len k) where
  -- a state whose number of blocks before the last is known
  pub IsHeld_from : (p h b : List ℕ) (used compressed n : ℕ) → compressed ≡ n * block_len k → used ≤ block_len k
      → (0 < n → 0 < used)
      → length p ≡ compressed + used → h ≡ chain k s p n → take used b ≡ drop compressed p
      → IsHeld k s p h b used compressed
  unfolding IsHeld
  IsHeld_from p h b used compressed n count le back len value rest =
      let e : block_count k (length p) - 1 ≡ n = before_last k (length p) pos
      ∙ last_block n used (block_len k) (length p) (omega arith) le pos back in
      (len, rw e count, rw e value, rest)

  -- what a state that holds p says of its number of compressed blocks
  compressed_facts : (p h b : List ℕ) (used compressed : ℕ) → IsHeld k s p h b used compressed
      → (compressed ≡ (block_count k (length p) - 1) * block_len k) × (0 < (block_count k (length p) - 1) → 0 < used)
  unfolding IsHeld
  compressed_facts p h b used compressed held = grind (arith, common_steps, before_last, div-mul-le_self, mul-le-mul_right)

  -- bytes that the buffer has room for
  pub IsHeld_short : (p h b c d : List ℕ) (used compressed : ℕ) → IsHeld k s p h b used compressed
      → used + length d ≤ block_len k
      → take (used + length d) c ≡ take used b ++ d → IsHeld k s (p ++ d) h c (used + length d) compressed
  unfolding IsHeld
  IsHeld_short p h b c d used compressed held le placed =
      let n : ℕ = block_count k (length p) - 1 in
      let facts = compressed_facts p h b used compressed held in
      let back : 0 < n → 0 < used + length d = λ some. let u : 0 < used = facts.1 some in omega arith in
      IsHeld_from (p ++ d) h c (used + length d) compressed n held.1 le back
      (omega (arith, length-append p d))
      (held.2 ∙ sym (chain-append k s p d n (omega arith)))
      (placed ∙ rw held.3 (sym (drop-append-le compressed p d (omega arith))))

  -- bytes that fill the buffer, which is then taken in
  pub IsHeld_fill : (p h b d x h' : List ℕ) (used compressed t : ℕ) → IsHeld k s p h b used compressed
      → used + length d ≡ block_len k
      → x ≡ take used b ++ d → used ≤ length b → t ≡ compressed + block_len k
      → h' ≡ compress k h (words (word_len k) 16 x) t false
      → (m : ℕ) × ((compressed + block_len k ≡ block_len k * m) × IsChained k s (p ++ d) h' m)
  unfolding IsHeld
  IsHeld_fill p h b d x h' used compressed t held full ex fits at eh =
      let m : ℕ = (block_count k (length p) - 1) in
      let q : List ℕ = take compressed p in
      let count : compressed ≡ m * block_len k = held.1 in
      let split : q ++ drop compressed p ≡ p = take-append-drop compressed p in
      let lq : length q ≡ compressed = length-take-le compressed p (omega arith) in
      let lx : length x ≡ block_len k = rw (ex, length-append, length-take-le used b fits) full in
      let value : h ≡ chain k s q m =
      held.2 ∙ ap (λ (z : List ℕ). chain k s z m) (sym split)
      ∙ chain-append k s q (drop compressed p) m (omega arith) in
      let next : IsChained k s (q ++ x) h' (m + 1) =
      IsChained_next k s q h x h' m t (lq ∙ count, value) lx (omega arith) eh in
      let whole : q ++ x ≡ p ++ d = rw (ex, held.3, ← append_assoc, split) refl in
      (m + 1, (omega arith, rw (← whole) next))

  -- the bytes after whole blocks, which stay in the buffer
  pub IsHeld_tail : (p h b d : List ℕ) (n compressed : ℕ) → IsChained k s p h n → compressed ≡ n * block_len k
      → 0 < length d → length d ≤ block_len k
      → take (length d) b ≡ d → IsHeld k s (p ++ d) h b (length d) compressed
  IsHeld_tail p h b d n compressed held count some le placed = grind (arith, common_steps, IsHeld_from, length-append, chain-append, drop-append_seam)

  -- the last block, with zeros after its bytes
  pub IsHeld_last : (p h b x h' : List ℕ) (used compressed t : ℕ) → IsHeld k s p h b used compressed
      → used ≤ block_len k → used ≤ length b
      → x ≡ take used b ++ replicate (block_len k - used) 0 → t ≡ compressed + used
      → h' ≡ compress k h (words (word_len k) 16 x) t true → h' ≡ final_value k s p
  unfolding IsHeld final_value
  IsHeld_last p h b x h' used compressed t held le fits ex at eh = grind (arith, common_steps, length-take-le, take_all)

  -- the state before any input
  pub IsHeld_none : (b : List ℕ) → IsHeld k s [] s b 0 0
  unfolding chain
  IsHeld_none b = IsHeld_from [] s b 0 0 0 (omega arith) (omega arith) (λ h. absurd (omega arith)) refl refl refl

  -- update, where the piece is `head`, which fills the buffer, whole blocks, and a tail
  pub update_long : (p h b d head body tail x h1 h2 c : List ℕ) (bs : List (List ℕ)) (used compressed t n : ℕ)
      → n ≡ block_len k
      → IsHeld k s p h b used compressed → length b ≡ n → used ≤ n → d ≡ head ++ (body ++ tail) → used + length head ≡ n
      → length x ≡ n
      → take (used + length head) x ≡ take used b ++ head
      → h1 ≡ compress k h (words (word_len k) 16 x) (compressed + n) false
      → ((s' p' : List ℕ) (m : ℕ) → compressed + n ≡ n * m → IsChained k s' p' h1 m
      → IsChained k s' (p' ++ concat bs) h2 (m + length bs))
      → concat bs ≡ body → t ≡ compressed + n + n * length bs → 0 < length tail → length tail ≤ n
      → take (0 + length tail) c ≡ take 0 x ++ tail
      → IsHeld k s (p ++ d) h2 c (length tail) t
  update_long p h b d head body tail x h1 h2 c bs used compressed t n w held lb le cut full lx block eh more eb et some
      short placed =
      let ex : x ≡ take used b ++ head = sym (take_all (used + length head) x (omega arith)) ∙ block in
      let filled : (m : ℕ) × ((compressed + block_len k ≡ block_len k * m) × IsChained k s (p ++ head) h1 m) =
      IsHeld_fill p h b head x h1 used compressed (compressed + n) held
      (omega arith) ex (omega arith) (omega arith) eh in
      let m : ℕ = filled.0 in
      let at' : compressed + block_len k ≡ block_len k * m = filled.1.0 in
      let at : compressed + n ≡ n * m = same_scale compressed (block_len k) n m w at' in
      let chained : IsChained k s ((p ++ head) ++ concat bs) h2 (m + length bs) = more s (p ++ head) m at filled.1.1 in
      let count : t ≡ (m + length bs) * block_len k =
      after_blocks compressed (block_len k) n m (length bs) t w at' et in
      let whole : ((p ++ head) ++ concat bs) ++ tail ≡ p ++ d = rw (cut, eb) (simp append_assoc refl) in
      let front : take (length tail) c ≡ tail = rw zero-add at placed in
      rw (← whole)
      (IsHeld_tail ((p ++ head) ++ concat bs) h2 c tail (m + length bs) t chained count some (omega arith) front)
