-- What a check of the lines that are left does.
use Rattle.std.specs.Prelude.{◌≡◌, ℕ, ◌+◌, ◌≤◌, List, ◌++◌, fold, length, Option, IfSome, Result, MatchResult}
use Rattle.std.specs.Io.KnownBytes.{Appends}
use Rattle.hashes.specs.declared.share.Share.{Share}
use Rattle.source.specs.Counts.{count_after}
use Rattle.source.specs.Written.{AppendsPrefix}
use Rattle.sumlist.specs.declared.checking.CheckFault.{CheckFault}
use Rattle.sumlist.specs.declared.summary.Summary.{Summary}
use Rattle.sumlist.specs.Lines.{lines}
use Rattle.sumlist.specs.Report.{AllAllowed, Files, Meaning, Outcome, report_from, with_line}
use Rattle.sumlist.specs.Shared.{shared}
use Rattle.sumlist.specs.inside.Marks.{lines_of, unreadable_count}

-- these lines, after those of a summary, have outcomes, of which the tree counted those of the share; they were counted
-- too, their report was appended, and the share goes on after them; or after a fault a beginning of it was appended
pub record RestChecked (files : Files) (m : Meaning) (name : Option (List ℕ)) (share behind : Share)
    (rest : List (List ℕ)) (s : Summary) (r : Result Summary CheckFault) (count_old count_new : ℕ)
    (old new : Option (List ℕ)) : Type 0 where
  pub outcomes : List Outcome
  pub allowed : AllAllowed files m rest outcomes
  pub counted : count_new ≡ count_after count_old (unreadable_count (shared share.others share.waiting outcomes).0)
  pub told : let own = shared share.others share.waiting outcomes in MatchResult r
      (λ t. (t ≡ fold with_line s own.0) × (behind ≡ record share { waiting = own.1 })
      × Appends old new (report_from name (lines_of s + 1) own.0))
      (λ _. AppendsPrefix old new (report_from name (lines_of s + 1) own.0))

-- the lines of the bytes that are ahead and of those to come
pub record Checks (rest : Option (List ℕ)) (known : Option Files) (m : Meaning) (name : Option (List ℕ))
    (share behind : Share) (ahead : List ℕ) (s : Summary) (r : Result Summary CheckFault) (count_old count_new : ℕ)
    (old new : Option (List ℕ)) : Type 0 where
  pub of : IfSome rest (λ bytes. IfSome known (λ files.
      RestChecked files m name share behind (lines (ahead ++ bytes)) s r count_old count_new old new))

-- for each of these lines one file was opened at most
pub record OpensEach (rest : Option (List ℕ)) (ahead : List ℕ) (old new : ℕ) : Type 0 where
  pub of : IfSome rest (λ bytes. new ≤ old + length (lines (ahead ++ bytes)))
