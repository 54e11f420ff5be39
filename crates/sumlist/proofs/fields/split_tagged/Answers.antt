use Rattle.sumlist.proofs.Common.{◌*◌, refl, sym}
use Rattle.sumlist.proofs.Reading.{alg_labelled-is, alg_labelled-none, end_cut-is, end_cut-none}
use Rattle.sumlist.proofs.fields.split_tagged.Goals as goal

pub returns-in_err-alg : goal.returns-in_err-alg
returns-in_err-alg c =
    rw (c.from_residual.ensures, alg_labelled-none c.args.label.now c.in_err-alg.ensures) refl

pub returns-in_err-body : goal.returns-in_err-body
returns-in_err-body c =
    let alg = alg_labelled-is c.args.label.now c.in_ok-alg.alg c.in_ok-alg.ensures.0 c.in_ok-alg.ensures.1 in
    let none = end_cut-none c.args.rest.now (2 * c.digest_len.result) c.in_err-body.ensures in
    rw (c.from_residual-in_err-body.ensures, alg, sym c.digest_len.ensures.value, none) refl

pub returns-in_err-tag : goal.returns-in_err-tag
returns-in_err-tag c =
    let alg = alg_labelled-is c.args.label.now c.in_ok-alg.alg c.in_ok-alg.ensures.0 c.in_ok-alg.ensures.1 in
    let end = end_cut-is c.args.rest.now _ c.in_ok-body.body.now c.in_ok-body.digits.now c.in_ok-body.ensures in
    rw (c.from_residual-in_err-tag.ensures, alg, sym c.digest_len.ensures.value, end, sym c.in_err-tag.ensures) refl

pub returns : goal.returns
returns c =
    let alg = alg_labelled-is c.args.label.now c.in_ok-alg.alg c.in_ok-alg.ensures.0 c.in_ok-alg.ensures.1 in
    let end = end_cut-is c.args.rest.now _ c.in_ok-body.body.now c.in_ok-body.digits.now c.in_ok-body.ensures in
    rw (alg, sym c.digest_len.ensures.value, end, sym c.in_ok-tag.ensures) refl
