-- A hasher's room is what its message leaves of the limit.
use Rattle.std.specs.Prelude.{◌≡◌, ℕ, ◌+◌, ◌-◌, ◌^◌, ◌≤◌, List, [], ◌∷◌, length, refl, replicate}
use Rattle.std.proofs.Common.{arith, ap, sym, ◌∙◌, length-append}
use Rattle.std.proofs.lemmas.List.{length-replicate}
use Rattle.words.specs.Blake2.{blake2b, blake2s}
use Rattle.words.specs.Mix.{Variant}
use Rattle.blake2.specs.Blake2.{Parameters, block_len, from_list, key_block, listed, message_limit}
use Rattle.blake2.specs.inside.Held.{HoldsMessage, IsHeld}
use Rattle.blake2.specs.inside.Hashers.{Holds2b, Holds2s, hasher_parameters, parameters_2b, parameters_2s, room_left_2b}
use Rattle.blake2.specs.inside.Hashers.{room_left_2s}
use Rattle.blake2.specs.inside.Listed.{read_back}
use Rattle.blake2.specs.declared.blake2b.Blake2b.{Blake2b}
use Rattle.blake2.specs.declared.blake2s.Blake2s.{Blake2s}

-- a key takes a block of the limit
pub limit_of_key : (k : Variant) (most n : ℕ) (key : List ℕ) → n ≡ block_len k → length key ≤ n
    → most - length (key_block k key) ≡ message_limit most n key
unfolding key_block
limit_of_key k most n [] block fits = omega arith
limit_of_key k most n (x ∷ xs) block fits =
    omega (
      arith,
      length-append (x ∷ xs) (replicate {A = ℕ} (block_len k - length (x ∷ xs)) 0),
      length-replicate {A = ℕ} (block_len k - length (x ∷ xs)) 0,
    )

-- what a message leaves of the limit, where a hasher holds it
pub room_of : (k : Variant) (p : Parameters) (h b : List ℕ) (used compressed most n : ℕ) (m : List ℕ) → n ≡ block_len k
    → length p.key ≤ n → compressed + used ≤ most → HoldsMessage k p h b used compressed m
    → most - (compressed + used) + length m ≡ message_limit most n p.key
unfolding IsHeld
room_of k p h b used compressed most n m block fits counted held =
    omega (arith, held.0, length-append (key_block k p.key) m, limit_of_key k most n p.key block fits)

-- the law of BLAKE2b's room
pub room_is_2b : (s : Blake2b) (m : List ℕ) → Holds2b s m
    → room_left_2b s + length m ≡ message_limit (2 ^ 128 - 1) 128 (from_list blake2b (parameters_2b s)).key
unfolding Holds2b parameters_2b room_left_2b block_len
room_is_2b s m held =
    let h = s.hasher in
    let p : Parameters = hasher_parameters h in
    let same : p ≡ from_list blake2b (listed p) = sym (read_back blake2b p h.salt_whole h.personal_whole) in
    room_of blake2b p h.stream.chain.h h.stream.buffer h.stream.used h.stream.compressed
    (2 ^ 128 - 1) 128 m refl (omega (arith, h.key_fits)) h.stream.counted held
    ∙ ap (λ (q : Parameters). message_limit (2 ^ 128 - 1) 128 q.key) same

-- the law of BLAKE2s's room
pub room_is_2s : (s : Blake2s) (m : List ℕ) → Holds2s s m
    → room_left_2s s + length m ≡ message_limit (2 ^ 64 - 1) 64 (from_list blake2s (parameters_2s s)).key
unfolding Holds2s parameters_2s room_left_2s block_len
room_is_2s s m held =
    let h = s.hasher in
    let p : Parameters = hasher_parameters h in
    let same : p ≡ from_list blake2s (listed p) = sym (read_back blake2s p h.salt_whole h.personal_whole) in
    room_of blake2s p h.stream.chain.h h.stream.buffer h.stream.used h.stream.compressed
    (2 ^ 64 - 1) 64 m refl (omega (arith, h.key_fits)) h.stream.counted held
    ∙ ap (λ (q : Parameters). message_limit (2 ^ 64 - 1) 64 q.key) same
