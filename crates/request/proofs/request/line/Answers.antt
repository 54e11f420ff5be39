use Rattle.std.proofs.Common.{rules, ◌≡◌, ◌∙◌, ap, inl, inr, sym}
use Rattle.std.specs.Prelude.{◌≢◌, ◌⊎◌}
use Rattle.std.proofs.lemmas.Result.{err_from_is_err_and}
use Rattle.clap.specs.Words.{is_simple_and_free, kind_of}
use Rattle.clap.specs.declared.error.Error.{Error}
use Rattle.clap.specs.declared.error.ErrorKind.TheVariants as kind
use Rattle.request.specs.CommandLine.{sums_app}
use Rattle.request.specs.declared.request.WordsFault.{WordsFault}
use Rattle.request.specs.declared.request.WordsFault.TheVariants.{OutOfMemory, Words}
use Rattle.request.proofs.ParseLemmas.{fault_among, no_fault_from, rows_from, sums_is_free, sums_is_simple}
use Rattle.request.proofs.request.line.Goals as goal

pub returns-clause-request : goal.returns-clause-request
returns-clause-request c =
    let same = c.in_ok-command.ensures in
    let rows = rows_from _ _ _ c.in_ok-matches.matches same (sums_is_simple _ _ _) c.in_ok-matches.ensures.matches in
    let passes = no_fault_from _ _ _ same (c.in_ok-matches.ensures.kinds
    (ap is_simple_and_free same ∙ sums_is_free _ _ _)) in
    (_, _, _, c.names-names.ensures, search rules, search rules, (passes, sym rows ∙ search rules))

-- the words' fault is the error that `clap` reported
told : (fault : WordsFault) (given e : Error) → fault ≡ Words e
    → ((fault ≡ OutOfMemory) × (kind_of given ≡ kind.OutOfMemory))
    ⊎ ((fault ≡ Words given) × (kind_of given ≢ kind.OutOfMemory))
    → (e ≡ given) × (kind_of e ≢ kind.OutOfMemory)
told fault given e is (inl h) = let out = h.0 in let bad : ⊥ = cc in absurd bad
told fault given e is (inr h) =
    let same : e ≡ given = let one = h.0 in cc in (same, λ out. h.1 (ap kind_of (sym same) ∙ out))

pub returns-in_err-matches-clause-fault : goal.returns-in_err-matches-clause-fault
returns-in_err-matches-clause-fault c e is =
    let same = c.in_ok-command.ensures in
    let residual = c.from_residual-in_err-matches in
    let p = err_from_is_err_and residual.result residual.ensures.1 in
    let fault : p.0 ≡ Words e = let one = p.1 in cc in
    let given = told p.0 _ e fault p.2 in (
      _,
      _,
      _,
      c.names-names.ensures,
      search rules,
      search rules,
      fault_among _ _ _ e _ same given.0 given.1 (c.in_err-matches.ensures.kinds
          (ap is_simple_and_free same ∙ sums_is_free _ _ _)),
    )

pub unreachable-requires : goal.unreachable-requires
unfolding sums_app
unreachable-requires c = search rules
