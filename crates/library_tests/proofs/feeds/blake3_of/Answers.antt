use Rattle.std.proofs.Common.{[]}
use Rattle.std.proofs.lemmas.Option.{IfSome_then}
use Rattle.std.proofs.lemmas.Result.{IfOk-at_ok, IfOk-weaker}
use Rattle.hashes.specs.declared.alg.Alg.TheVariants.{Blake3}
use Rattle.library_tests.proofs.feeds.blake3_of.Goals as goal

pub returns-clause-tag : goal.returns-clause-tag
returns-clause-tag g c =
    let parameters = IfOk-at_ok _ c.unwrap-hasher.ensures c.new.ensures.parameters in
    let empty = IfOk-at_ok _ c.unwrap-hasher.ensures c.new.ensures.empty in
    IfOk-weaker c.digest_of.result _ _ (λ tag told. IfSome_then (g.F.Feed.remaining c.args.feed.now) told (λ xs under. under Blake3 [] parameters empty)) c.digest_of.ensures.digest

pub returns-clause-length : goal.returns-clause-length
returns-clause-length g c =
    let parameters = IfOk-at_ok _ c.unwrap-hasher.ensures c.new.ensures.parameters in
    IfOk-weaker c.digest_of.result _ _ (λ tag under. under Blake3 parameters) c.digest_of.ensures.length
