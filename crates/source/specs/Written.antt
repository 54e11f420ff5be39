-- What a sink shows, and what one write of bytes, or a whole text, leaves in it.
use Rattle.std.specs.Prelude.{◌≡◌, ◌<◌, ◌≤◌, ℕ, List, ◌++◌, Option, Result, MatchResult, length, take, IfOk, OnErr}
use Rattle.source.specs.Counts.{CountsFailure, next_count}
use Rattle.std.specs.Io.KnownBytes.{Appends}

-- what is seen of a sink: how many writes have failed, and the bytes written, or `None` if they are not known
pub record Shown : Type 0 where
  pub failures : ℕ
  pub contents : Option (List ℕ)

-- one write of these bytes returned r: `Ok n` appended the first n of them, at least one if there are any; an `Err`
-- appended nothing, and is one more failure
pub record IsWrite {E : Type 0} (r : Result ℕ E) (old new : Shown) (bytes : List ℕ) : Type 0 where
  pub bound : IfOk r (λ n. n ≤ length bytes)
  pub progress : IfOk r (λ n. 0 < length bytes → 0 < n)
  pub appended : IfOk r (λ n. Appends old.contents new.contents (take n bytes))
  pub refused : OnErr r (new.contents ≡ old.contents)
  pub counted : CountsFailure r old.failures new.failures

-- a list that another one begins with
abbrev pub Begins : List ℕ → List ℕ → Type 0
Begins front whole = (rest : List ℕ) × (whole ≡ front ++ rest)

-- what was written grows by a beginning of `bytes`
abbrev pub AppendsPrefix : Option (List ℕ) → Option (List ℕ) → List ℕ → Type 0
AppendsPrefix old new bytes = (front : List ℕ) × Appends old new front × Begins front bytes

-- a text was written whole, and no write failed
abbrev pub Done : Shown → Shown → List ℕ → Type 0
Done old new text = (new.failures ≡ old.failures) × Appends old.contents new.contents text

-- a beginning of a text was written, and one write failed
abbrev pub Failed : Shown → Shown → List ℕ → Type 0
Failed old new text = (new.failures ≡ next_count old.failures) × AppendsPrefix old.contents new.contents text

-- a text was written, whole and with no failure, or a beginning of it and then one write failed
abbrev pub Writes : {T E : Type 0} → Result T E → Shown → Shown → List ℕ → Type 0
Writes r old new text = MatchResult r (λ _. Done old new text) (λ _. Failed old new text)
