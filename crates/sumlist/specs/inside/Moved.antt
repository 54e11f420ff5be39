-- A file that was moved to a position.
use Rattle.std.specs.Prelude.{◌≡◌, ℕ, Result, Ok, Err}
use Rattle.std.specs.declared.io.ErrorKind.{ErrorKind}
use Rattle.std.specs.declared.io.ErrorKind.TheVariants as kind
use Rattle.std.specs.declared.io.impls.Empty.{Empty}
use Rattle.either.specs.declared.Either.{Either}
use Rattle.either.specs.declared.Either.TheVariants.{Left, Right}
use Rattle.sumlist.specs.declared.tree.OpenFault.{OpenFault}
use Rattle.sumlist.specs.declared.tree.OpenFault.TheVariants.{Failed}

-- what comes of a file by the answer to its move: the file, nothing where no file has the position, or a fault
abbrev pub after_move : {F : Type 0} → F → Result ℕ ErrorKind → Result (Either F Empty) OpenFault
after_move file (Ok position) = Ok (Left file)
after_move file (Err kind.InvalidInput) = Ok (Right record {})
after_move file (Err _) = Err Failed

-- the file was moved, which may answer so, and this comes of the answer
abbrev pub IsMoved : {F : Type 0} → (F → ℕ → Result ℕ ErrorKind → F → Type 0) → F → ℕ
    → Result (Either F Empty) OpenFault → Type 0
IsMoved {F} moves file position result = (answer : Result ℕ ErrorKind) × (moved : F)
    × moves file position answer moved × (result ≡ after_move moved answer)
