-- The digests of messages of one buffer, in rows of `size` bytes.
use Rattle.std.specs.Prelude.{◌≡◌, ℕ, ◌<◌, ◌+◌, ◌*◌, Bool, true, false, List, take, drop, slice_index, slice_index_or}
use Rattle.pieces.specs.declared.messages.Messages.{Messages}

-- row i is the digest of message i
abbrev pub IsRow : (List ℕ → List ℕ) → ℕ → Messages → List ℕ → ℕ → Type 0
IsRow hash size messages rows i = take size (drop (size * i) rows)
    ≡ hash (take (slice_index messages.lens.now i) (drop (slice_index messages.starts.now i) messages.bytes.now))

-- each message from the first on that is marked has its row
abbrev pub AreWritten : (List ℕ → List ℕ) → ℕ → Messages → List ℕ → ℕ → List Bool → Type 0
AreWritten hash size messages rows first written =
    (k : ℕ) → k < 64 → slice_index_or written k false ≡ true → IsRow hash size messages rows (first + k)
