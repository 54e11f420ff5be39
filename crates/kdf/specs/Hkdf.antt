-- HKDF (RFC 5869) over any hash function, on lists of bytes.
use Rattle.std.specs.Prelude.{ℕ, zero, suc, Option, List, [], ◌∷◌, ◌++◌, take, replicate, unwrap_or}
use Rattle.mac.specs.Hmac.{hmac}

-- the salt; an absent one is as many zeros as a digest has bytes (2.2)
abbrev pub salt_or_zeros : ℕ → Option (List ℕ) → List ℕ
salt_or_zeros out salt = unwrap_or salt (replicate out 0)

-- HKDF-Extract: the pseudorandom key of input keying material (2.2), for a hash function with blocks of n bytes and
-- digests of out bytes
abbrev pub extract : (List ℕ → List ℕ) → ℕ → ℕ → Option (List ℕ) → List ℕ → List ℕ
extract hash n out salt material = hmac hash n (salt_or_zeros out salt) material

-- T(i), where prf is HMAC under the pseudorandom key (2.3)
unfoldable pub expand_block : (List ℕ → List ℕ) → List ℕ → ℕ → List ℕ
expand_block prf info zero = []
expand_block prf info (suc i) = prf (expand_block prf info i ++ info ++ suc i ∷ [])

-- T(1) to T(i), one after the other (2.3)
unfoldable pub expand_blocks : (List ℕ → List ℕ) → List ℕ → ℕ → List ℕ
expand_blocks prf info zero = []
expand_blocks prf info (suc i) = expand_blocks prf info i ++ expand_block prf info (suc i)

-- HKDF-Expand: the first bytes of T(1) to T(255), as many as are wanted (2.3)
abbrev pub expand : (List ℕ → List ℕ) → ℕ → List ℕ → List ℕ → ℕ → List ℕ
expand hash n prk info wanted = take wanted (expand_blocks (hmac hash n prk) info 255)
