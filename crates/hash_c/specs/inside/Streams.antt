-- The statuses of refused pieces.
use Rattle.std.specs.Prelude.{ℕ}
use Rattle.blake2.specs.declared.fault.StateFault.{StateFault}
use Rattle.blake2.specs.declared.fault.StateFault.TheVariants.{NotBegun, TooLong}
use Rattle.hash_c.specs.declared.statuses.TheConstants.{SUMS_INPUT_TOO_LONG, SUMS_NOT_BEGUN}

unfoldable pub fault_status : StateFault → ℕ
fault_status NotBegun = SUMS_NOT_BEGUN
fault_status TooLong = SUMS_INPUT_TOO_LONG
