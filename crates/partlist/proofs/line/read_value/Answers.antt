use Rattle.std.proofs.Common.{ap, ◌∙◌, Some}
use Rattle.std.proofs.lemmas.Result.{MatchResult-at_ok}
use Rattle.hex.specs.Hex.{decode_sized}
use Rattle.hex.proofs.HexLemmas.{decode_sized-encode_lower}
use Rattle.partlist.proofs.line.read_value.Goals as goal

pub returns-in-Ok : goal.returns-in-Ok
returns-in-Ok c value bytes size e = ap Some
    (MatchResult-at_ok _ _ value (ap (λ t. decode_sized t 32) e ∙ decode_sized-encode_lower value 32 size bytes)
    c.decode_to_slice.ensures.value).1

pub returns-in-Err : goal.returns-in-Err
returns-in-Err c value bytes size e =
    let decoded = ap (λ t. decode_sized t 32) e ∙ decode_sized-encode_lower value 32 size bytes in
    let ok = (MatchResult-at_ok _ _ value decoded c.decode_to_slice.ensures.value).0 in
    let err = c.in-Err.is in
    cc
