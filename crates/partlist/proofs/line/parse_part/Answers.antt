use Rattle.std.proofs.Common.{ap, ◌∙◌, ◌++◌, ◌∷◌, None, Some, codes}
use Rattle.std.proofs.lemmas.Bool.Decides.{Decides-eqb}
use Rattle.std.proofs.lemmas.Slice.Eq.{strip_prefix_is}
use Rattle.std.specs.Fmt.{decimal}
use Rattle.hex.specs.Hex.{encode_lower}
use Rattle.partlist.proofs.Parsing.{len_fits, told_len, told_part, told_value}
use Rattle.partlist.proofs.line.parse_part.Goals as goal

pub returns-in_err-rest : goal.returns-in_err-rest
returns-in_err-rest c = rw c.from_residual.ensures (λ first len value t.
    strip_prefix_is Decides-eqb c.args.line.now (codes "sums-part-1 blake3 ") None c.in_err-rest.ensures.cases
    (decimal first ++ 32 ∷ (decimal len ++ 32 ∷ encode_lower value)) t.text)

pub returns-in_err-len : goal.returns-in_err-len
returns-in_err-len c =
    let rest = strip_prefix_is Decides-eqb c.args.line.now (codes "sums-part-1 blake3 ") (Some c.in_ok-rest.rest)
    c.in_ok-rest.ensures.cases in
    rw c.from_residual-in_err-len.ensures
    (λ first len value t.
    c.in_err-len.ensures len _ (len_fits _ first len value t)
    (told_len _ c.in_ok-rest.rest.now c.in_ok-first.rest.now c.in_ok-first.first first len value t rest
    c.in_ok-first.ensures.0 c.in_ok-first.ensures.1).1)

pub returns-in_err-value : goal.returns-in_err-value
returns-in_err-value c =
    let rest = strip_prefix_is Decides-eqb c.args.line.now (codes "sums-part-1 blake3 ") (Some c.in_ok-rest.rest)
    c.in_ok-rest.ensures.cases in
    rw c.from_residual-in_err-value.ensures
    (λ first len value t. c.in_err-value.ensures value t.bytes t.sized
    (told_value _ c.in_ok-rest.rest.now c.in_ok-first.rest.now c.in_ok-len.digits.now c.in_ok-first.first
    c.in_ok-len.len first len value t rest c.in_ok-first.ensures.0 c.in_ok-first.ensures.1
    c.in_ok-len.ensures.0 c.in_ok-len.ensures.1).1.1)

pub returns : goal.returns
returns c =
    let rest = strip_prefix_is Decides-eqb c.args.line.now (codes "sums-part-1 blake3 ") (Some c.in_ok-rest.rest)
    c.in_ok-rest.ensures.cases in
    rw c.ok.ensures.value
    (told_part c.of_bytes.result c.args.line.now c.in_ok-value.value c.in_ok-first.first c.in_ok-len.len
    c.of_bytes.ensures.placed c.of_bytes.ensures.first c.of_bytes.ensures.len c.of_bytes.ensures.value
    c.in_ok-value.ensures.0 c.in_ok-value.ensures.1
    (rest ∙ ap (λ rest. codes "sums-part-1 blake3 " ++ rest) (c.in_ok-first.ensures.1
    ∙ ap (λ rest. decimal c.in_ok-first.first ++ 32 ∷ rest) (c.in_ok-len.ensures.1
    ∙ ap (λ digits. decimal c.in_ok-len.len ++ 32 ∷ digits) c.in_ok-value.ensures.2)))
    (λ f l v t.
    let told = told_value c.args.line.now c.in_ok-rest.rest.now c.in_ok-first.rest.now c.in_ok-len.digits.now
    c.in_ok-first.first c.in_ok-len.len f l v t rest c.in_ok-first.ensures.0
    c.in_ok-first.ensures.1 c.in_ok-len.ensures.0 c.in_ok-len.ensures.1 in
    (told.0, told.1.0)))
