-- What a run of a feed's bytes is, and a part of them.
use Rattle.std.specs.Prelude.{◌≡◌, ℕ, ◌+◌, ◌-◌, ◌*◌, ◌^◌, ◌<◌, ◌≤◌, List, Option, length, take}
use Rattle.std.specs.Io.KnownBytes.{Consumes, IsAtEnd, prepend_known}
use Rattle.b3.specs.inside.Parts.{IsPart, part_first, part_len, part_mode}
use Rattle.b3.specs.declared.mode.Mode.{Mode}
use Rattle.b3.specs.declared.part.Part.{Part}

-- the first n bytes of the buffer came from the feed, and where the buffer is not full, no more come
pub record IsFilled {S : Type 0} (remaining : S → Option (List ℕ)) (old new : S) (run : List ℕ) (n : ℕ) : Type 0 where
  pub given : Consumes (remaining old) (remaining new) (take n run)
  pub within : n ≤ length run
  pub end : n < length run → IsAtEnd (remaining new)

-- of what was to come a part was taken, of at most so many chunks from a chunk on; what is to come then is the
-- first n bytes of the buffer and what the feed has, and it is nothing where the part is not full
pub record IsTaken {S : Type 0} (remaining : S → Option (List ℕ)) (under : Mode) (start chunks : ℕ)
    (old : Option (List ℕ)) (feed : S) (run : List ℕ) (taken : Part) (n : ℕ) : Type 0 where
  pub mode : part_mode taken ≡ under
  pub first : part_first taken ≡ start
  pub bytes : List ℕ
  pub given : Consumes old (prepend_known (take n run) (remaining feed)) bytes
  pub part : IsPart taken bytes
  pub most : part_len taken ≤ 1024 * chunks
  pub limit : 1024 * start + part_len taken ≤ 2 ^ 64 - 1
  pub full : 0 < n → part_len taken ≡ 1024 * chunks
  pub within : n ≤ length run
  pub end : n < length run → IsAtEnd (remaining feed)
