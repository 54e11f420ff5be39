-- What contracts see of an `Hmac`.
use Rattle.std.specs.Prelude.{◌≡◌, ℕ, ◌+◌, ◌-◌, List, ◌++◌, length, take}
use Rattle.mac.specs.Hmac.{xored}
use Rattle.mac.specs.declared.hmac.Hmac.{Hmac}

module _ {H : Type 0} where
  -- the key as one block of n bytes
  abbrev pub mac_key : ℕ → Hmac H → List ℕ
  mac_key n mac = take n mac.key

  -- the hasher of the inner hash
  abbrev pub mac_hasher : Hmac H → H
  mac_hasher mac = mac.inner

  -- the inner hash has taken the key xored with ipad and then the text, and its room is what is left
  -- of the limit less that block
  pub record IsMacOf (holds : H → List ℕ → Type 0) (room_left : H → ℕ) (n limit : ℕ) (mac : Hmac H)
      (text : List ℕ) : Type 0 where
    pub inner : holds (mac_hasher mac) (xored 0x36 (mac_key n mac) ++ text)
    pub room : room_left (mac_hasher mac) + length text ≡ limit - n
