-- What the numbers of a list hold of what was read.
use Rattle.std.specs.Prelude.{◌≡◌, ◌≢◌, ◌++◌, ℕ, ◌+◌, [], List, Contains, take, Option, Some, None}
use Rattle.std.specs.Prelude.{if◌then◌else◌, nat_le}
use Rattle.hashes.specs.declared.kind.Kind.{Kind}
use Rattle.sumlist.specs.Lines.{IsKept}
use Rattle.listing.specs.Numbers.{number_of}
use Rattle.listing.specs.declared.line.ListLine.{ListLine}
use Rattle.listing.specs.declared.line.TheConstants.{LINE_NONE}
use Rattle.listing.specs.declared.state.ListState.{ListState}

-- what is held of the line that has begun, unless it is longer than a line may be
abbrev pub held : ListState → Option (List ℕ)
held s = if nat_le s.held 65536 then Some (take s.held s.line) else None

-- of a list whose untagged lines have this kind n lines have ended, and these bytes stand after the last LF
pub record ListHolds (s : ListState) (kind : Option Kind) (n : ℕ) (begun : List ℕ) : Type 0 where
  pub mark : s.mark ≡ 1 + number_of kind
  pub lines : s.lines ≡ n
  pub held : IsKept (held s) begun
  pub free : Contains begun 10 → ⊥

-- what a list holds after a piece of it: the piece too if no line has ended, and else nothing after one line more
pub record HoldsAfter (s : ListState) (kind : Option Kind) (n : ℕ) (begun piece : List ℕ) (l : ListLine) : Type 0 where
  pub none : l.kind ≡ LINE_NONE → ListHolds s kind n (begun ++ piece)
  pub line : l.kind ≢ LINE_NONE → ListHolds s kind (n + 1) []
