-- If nothing failed, a list has exactly one report.
use Rattle.std.specs.Prelude.{◌≡◌, ℕ, ◌-◌, ◌<◌, ◌^◌, List}
use Rattle.source.specs.Counts.{count_after}
use Rattle.sumlist.specs.Report.{AllAllowed, Files, Meaning, Outcome, summary_of}

-- outcomes for all lines, none of them unreadable
abbrev pub AllSettled : Files → Meaning → List (List ℕ) → List Outcome → Type 0
AllSettled files m lines outcomes = AllAllowed files m lines outcomes × ((summary_of outcomes).unreadable ≡ 0)

-- any lines have such outcomes, and only one sequence of them
abbrev pub OneSettled : Type 0
OneSettled = (files : Files) (m : Meaning) (lines : List (List ℕ)) → (os : List Outcome)
    × AllSettled files m lines os × ((ps : List Outcome) → AllSettled files m lines ps → os ≡ ps)

-- a tree that counted no failure has had no unreadable file
abbrev pub NoneCounted : Type 0
NoneCounted = (n k : ℕ) → n < 2 ^ 64 - 1 → count_after n k ≡ n → k ≡ 0
