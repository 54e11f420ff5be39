-- A MAC that is kept as two hashers (RFC 2104, 2).
use Rattle.std.specs.Prelude.{◌≡◌, ℕ, List, ◌++◌, length}
use Rattle.mac.specs.Hmac.{xored}

-- under the key k, which is one block of n bytes, the inner hasher has taken the key xored with ipad and then the
-- text, and the outer one the key xored with opad
abbrev pub IsMac : {S : Type 0} → (S → List ℕ → Type 0) → ℕ → List ℕ → S → S → List ℕ → Type 0
IsMac holds n k inner outer text = (length k ≡ n)
    × holds inner (xored 0x36 k ++ text)
    × holds outer (xored 0x5c k)
