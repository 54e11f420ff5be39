-- What contracts see of the front of a lent feed.
use Rattle.std.specs.Prelude.{◌≡◌, ℕ, List, Option, None}
use Rattle.std.specs.Io.KnownBytes.{Consumes}
use Rattle.source.specs.Pumped.{up_to}
use Rattle.source.specs.declared.front.Front.{Front}

module _ {F : Type 0} (remaining : F → Option (List ℕ)) where
  -- the bytes that it has to come
  abbrev pub front_remaining : Front F → Option (List ℕ)
  front_remaining s = up_to s.left (remaining s.inner.now)

  -- it still has the same feed, which gave some of these bytes
  pub record Passes (old new : Front F) : Type 0 where
    pub lent : new.inner.ghost_name ≡ old.inner.ghost_name
    pub whole : old.left ≡ None → new.left ≡ None
    pub given : List ℕ
    pub inner : Consumes (remaining old.inner.now) (remaining new.inner.now) given
    pub front : Consumes (front_remaining old) (front_remaining new) given

-- how many of the feed's reads have failed
abbrev pub front_failures : {F : Type 0} → (F → ℕ) → Front F → ℕ
front_failures failure_count s = failure_count s.inner.now
