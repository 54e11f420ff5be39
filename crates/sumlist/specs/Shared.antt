-- A share of what is gone through one after another (docs/FORMAT.md, Shares of a run).
use Rattle.std.specs.Prelude.{ℕ, suc, zero, List, [], ◌∷◌}
use Rattle.sumlist.specs.Report.{Outcome, skipped}

-- each (n + 1)-th of these, the first of them after k others
abbrev pub every : {A : Type 0} → ℕ → ℕ → List A → List A
every n k [] = []
every n zero (x ∷ xs) = x ∷ every n n xs
every n (suc k) (x ∷ xs) = every n k xs

-- what such a share reports of the outcomes of lines, and how many entries it passes over after them: a line that is
-- skipped is no entry, and of the entries of others it reports as much as of such lines, which is nothing
abbrev pub shared : ℕ → ℕ → List Outcome → List Outcome × ℕ
shared n k [] = ([], k)
shared n k (skipped ∷ outcomes) = let rest = shared n k outcomes in (skipped ∷ rest.0, rest.1)
shared n zero (o ∷ outcomes) = let rest = shared n n outcomes in (o ∷ rest.0, rest.1)
shared n (suc k) (o ∷ outcomes) = let rest = shared n k outcomes in (skipped ∷ rest.0, rest.1)
