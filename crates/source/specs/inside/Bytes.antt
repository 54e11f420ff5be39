-- What contracts see of a lent slice as a feed.
use Rattle.std.specs.Prelude.{ℕ, List, length, min, Option, unwrap_or}
use Rattle.source.specs.declared.bytes.Bytes.{Bytes}

-- the bytes still to come
abbrev pub bytes_rest : Bytes → List ℕ
bytes_rest s = s.rest.now

-- the most bytes that one read gives
abbrev pub bytes_most : Bytes → ℕ
bytes_most s = s.most

-- how many bytes come before the failing place, where there is one
abbrev pub bytes_place : Bytes → Option ℕ
bytes_place s = s.place

-- how many reads have failed
abbrev pub bytes_failures : Bytes → ℕ
bytes_failures s = s.failures

-- how many bytes the next read into so much room gives, where it does not fail
abbrev pub bytes_next : Bytes → ℕ → ℕ
bytes_next s room =
    let most = min (min (length (bytes_rest s)) (bytes_most s)) room in min most (unwrap_or (bytes_place s) most)
