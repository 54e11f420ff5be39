-- Why no digests are written.
use Rattle.std.specs.Prelude.{ℕ, ◌*◌, Option, Some, None, nat_lt, nat_eq, if◌then◌else◌}
use Rattle.pieces.specs.declared.fault.Fault.{Fault}
use Rattle.pieces.specs.declared.fault.Fault.TheVariants.{DigestLength, PieceLength, OutputLength}
use Rattle.pieces.specs.Pieces.{piece_count}

-- what is wrong with pieces of n bytes of an input, and with an output for digests of `size` bytes
abbrev pub piece_fault : (size n input_len output_len : ℕ) → Option Fault
piece_fault size n input_len output_len =
    if nat_eq n 0 then Some PieceLength
    else if nat_eq output_len (size * piece_count n input_len) then None
    else Some OutputLength

-- likewise if a digest length is asked for, and a digest has at most `most` bytes
abbrev pub sized_fault : (most size n input_len output_len : ℕ) → Option Fault
sized_fault most size n input_len output_len =
    if nat_lt size 1 then Some DigestLength
    else if nat_lt most size then Some DigestLength
    else piece_fault size n input_len output_len
