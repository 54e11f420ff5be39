-- What one read of a feed does.
use Rattle.std.specs.Prelude.{◌≡◌, ◌<◌, ◌≤◌, ℕ, List, Option, Result, length, take, IfOk, OnErr}
use Rattle.std.specs.Io.KnownBytes.{Consumes, IsAtEnd}
use Rattle.source.specs.Counts.{CountsFailure}

-- a read into a buffer, which is then `buf`, returned r: `Ok n` gave n of the bytes to come, and none is left if n is 0
-- and there was room; an `Err` gave nothing, and is one more failure
pub record IsRead {S E : Type 0} (r : Result ℕ E) (remaining : S → Option (List ℕ)) (failure_count : S → ℕ)
    (old new : S) (buf : List ℕ) : Type 0 where
  pub bound : IfOk r (λ n. n ≤ length buf)
  pub given : IfOk r (λ n. Consumes (remaining old) (remaining new) (take n buf))
  pub end : IfOk r (λ n. n ≡ 0 → 0 < length buf → IsAtEnd (remaining new))
  pub refused : OnErr r (remaining new ≡ remaining old)
  pub counted : CountsFailure r (failure_count old) (failure_count new)
