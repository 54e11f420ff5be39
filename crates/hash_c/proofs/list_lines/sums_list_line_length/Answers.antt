use Rattle.std.proofs.Common.{◌≡◌, ◌∙◌, MatchOption, None, Option, Some, sym, ℕ}
use Rattle.std.specs.Prelude.{unwrap_or}
use Rattle.hash_c.proofs.ListLines.{alg_one, length-line_text}
use Rattle.hash_c.proofs.list_lines.sums_list_line_length.Goals as goal

-- what stands for a length that is there
length_there : {P : Type 0} (o : Option ℕ) (r n : ℕ) → r ≡ unwrap_or o 0
    → MatchOption o (P → ⊥) (λ m. P × (m ≡ n)) → P → r ≡ n
length_there None r n is none p = absurd (none p)
length_there (Some m) r n is some p = is ∙ some.1

pub returns-clause-line : goal.returns-clause-line
returns-clause-line c = λ alg digest is sized has.
    let same = alg_one c.args.hash c.args.digest_len c.in-Some.alg alg c.in-Some.ensures (rw sized at is) in
    length_there c.entry_len.result _ _ c.unwrap_or.ensures c.entry_len.ensures (rw same has)
    ∙ rw same (length-line_text _ _ (sym is.2))
