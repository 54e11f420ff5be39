use Rattle.sumlist.proofs.Common.{◌++◌, ◌≡◌, ◌≤◌, Alg, IfSome, List, None, Ok, Err, Option, Result, Some, [], arith}
use Rattle.sumlist.proofs.Common.{digest}
use Rattle.sumlist.proofs.Common.{input_limit, length, ℕ}
use Rattle.std.proofs.lemmas.Result.{IfOk-at_ok}
use Rattle.std.specs.Prelude.{IfOk, IsErrOf, OnOk}
use Rattle.source.specs.Pumped.{IsLongerThan}
use Rattle.source.specs.declared.pumping.SourceFault.{SourceFault}
use Rattle.source.specs.declared.pumping.SourceFault.TheVariants.{Read, TooLong}
use Rattle.sumlist.specs.inside.Stepped.{Makes}
use Rattle.sumlist.proofs.entries.EntryMakesTag.tag_of.Goals as goal

-- what a hasher that holds nothing made of all that came
made : (a : Alg) (P : Alg → Type 0) (H : List ℕ → Type 0) (room : ℕ) (known : Option (List ℕ))
    (r : Result (List ℕ) SourceFault) → P a → H [] → room ≡ input_limit a
    → IfOk r (λ tag. IfSome known (λ xs. (b : Alg) (m : List ℕ) → P b → H m → tag ≡ digest b (m ++ xs)))
    → OnOk r (IfSome known (λ xs. length xs ≤ room)) → (IsErrOf r TooLong → IsLongerThan known room)
    → IfSome known (λ xs. Makes (input_limit a, digest a) xs r)
made a P H room None r p h is digests fits long = tt
made a P H room (Some xs) (Ok tag) p h is digests fits long = (rw is at fits, digests a [] p h)
made a P H room (Some xs) (Err Read) p h is digests fits long = tt
made a P H room (Some xs) (Err TooLong) p h is digests fits long = grind arith

pub returns-clause-made : goal.returns-clause-made
returns-clause-made g c =
    let parameters = IfOk-at_ok _ c.unwrap.ensures c.new.ensures.parameters in
    let empty = IfOk-at_ok _ c.unwrap.ensures c.new.ensures.empty in
    let room = IfOk-at_ok _ c.unwrap.ensures c.new.ensures.room in
    rw (← c.alg.ensures.value) (made c.alg.result _ _ _ _ _ parameters empty room c.digest_of.ensures.digest
    c.digest_of.ensures.fits c.digest_of.ensures.too_long)
