use Rattle.std.proofs.Common.{◌≡◌, ℕ, ◌-◌, ◌≤◌, ◌++◌, List, Option, Some, length, refl, length-append}
use Rattle.std.proofs.Common.{take, drop, arith, sym, ◌∙◌, subst, length-take-le}
use Rattle.std.proofs.lemmas.List.{take-append-le}
use Rattle.std.specs.Io.KnownBytes.{Consumes}
use Rattle.source.specs.Pumped.{up_to}
use Rattle.source.proofs.Fronting.{front-consumes, front-end, front_of}
use Rattle.source.proofs.front.Front.read.Goals as goal

-- what the feed gave is the front's
fronted : (limit : Option ℕ) (old new : Option (List ℕ)) (bytes : List ℕ) (left count : ℕ) → limit ≡ Some left
    → count ≤ length bytes → length bytes ≤ left → Consumes old new (take count bytes)
    → Consumes (up_to limit old) (front_of (left - count) new) (take count bytes)
fronted limit old new bytes left count is few room given =
    subst (λ (o : Option ℕ). Consumes (up_to o old) (front_of (left - count) new) (take count bytes)) (sym is)
    (front-consumes old new (take count bytes) left count (length-take-le count bytes few) (omega arith) given)

pub returns-clause-read : goal.returns-clause-read
returns-clause-read g c =
    let read = c.in_ok-count.ensures in
    let count : ℕ = c.in_ok-count.count in
    let left : ℕ = c.in-Some.left in
    let bytes : List ℕ = c.read-2.new.buf in
    let rest : List ℕ = drop c.min-room.result c.args.buf.now in
    let room = c.min-room.ensures in
    let size = c.read-2.auto.buf in
    let whole : take count (bytes ++ rest) ≡ take count bytes = take-append-le count bytes rest read.bound in
    let all = length-append bytes rest in
    let within : c.min-room.result ≤ length c.args.buf.now = omega (arith, room) in
    let filled : length bytes ≡ c.min-room.result = size ∙ length-take-le c.min-room.result c.args.buf.now within in
    record {
      bound = omega (arith, all, read.bound);
      given = rw whole
          (fronted _ _ _ bytes left count c.in-Some.is read.bound (omega (arith, room, filled)) read.given);
      end = λ none some. front-end (g.F.Feed.remaining c.read-2.new.self) _ (read.end none
          (omega (arith, all, size, filled, room, some, c.if-left-eq0.false)));
      refused = tt;
      counted = read.counted;
    }

pub returns-clause-passed : goal.returns-clause-passed
returns-clause-passed g c =
    let read = c.in_ok-count.ensures in
    let bytes : List ℕ = c.read-2.new.buf in
    let room = c.min-room.ensures in
    let within : c.min-room.result ≤ length c.args.buf.now = omega (arith, room) in
    let filled : length bytes ≡ c.min-room.result
    = c.read-2.auto.buf ∙ length-take-le c.min-room.result c.args.buf.now within in
    record {
      lent = refl;
      whole = λ none. absurd (cc (none, c.in-Some.is));
      given = take c.in_ok-count.count bytes;
      inner = read.given;
      front = fronted _ _ _ bytes c.in-Some.left c.in_ok-count.count c.in-Some.is read.bound
          (omega (arith, room, filled)) read.given;
    }
