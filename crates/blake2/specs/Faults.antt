-- Which parameters are refused (RFC 7693, 2.1).
use Rattle.std.specs.Prelude.{ℕ, Option, Some, None, nat_lt, if◌then◌else◌}
use Rattle.blake2.specs.declared.fault.ParameterFault.{ParameterFault}
use Rattle.blake2.specs.declared.fault.ParameterFault.TheVariants.{DigestLength, KeyLength}

-- what is wrong with a digest length and a key length, neither of which may exceed `most`
abbrev pub parameter_fault : ℕ → ℕ → ℕ → Option ParameterFault
parameter_fault most digest_length key_length =
    if nat_lt digest_length 1 then Some DigestLength
    else if nat_lt most digest_length then Some DigestLength
    else if nat_lt most key_length then Some KeyLength
    else None
