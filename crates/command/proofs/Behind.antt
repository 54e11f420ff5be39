-- Lists that are joined one behind another, as the definition of `join` says it.
use Rattle.std.proofs.lemmas.Grind.{common_steps}
use Rattle.std.proofs.Common.{arith, ◌≡◌, ◌∙◌, ◌+◌, ℕ, List, [], ◌∷◌, ◌++◌, Ok, Err, refl, sym, ap, inl, subst}
use Rattle.std.proofs.Common.{append-nil, append_assoc, Option, Some, IfSome, Result}
use Rattle.std.specs.Borrow.{Bor}
use Rattle.b3.specs.declared.row.PartValue.{PartValue}
use Rattle.request.specs.CommandLine.{Text}
use Rattle.partlist.specs.Joined.{AreInRow, FollowEachOther}
use Rattle.partlist.specs.declared.fault.JoinFault.{JoinFault}
use Rattle.partlist.specs.declared.joining.Joiner.{Joiner}
use Rattle.partlist.specs.inside.Joiner.{HasJoined, StopsSo}
use Rattle.sumlist.specs.Report.{Files}
use Rattle.command.specs.Joining.{JoinsLists}
use Rattle.command.specs.Lines.{content_of, is_input}
use Rattle.command.specs.Run.{Run}
use Rattle.command.specs.inside.Faults.{of_join}
use Rattle.command.specs.inside.Joining.{AllListed, Halts, JoinsList, left_by}

pub front_row : (n last : ℕ) (ps qs : List PartValue) → FollowEachOther n last (ps ++ qs) → FollowEachOther n last ps
front_row n last [] qs follow = tt
front_row n last (p ∷ ps) qs follow =
    (follow.0, follow.1, front_row (n + p.len) p.len ps qs follow.2)

-- what a list tells behind parts
pub behind : (parts told more all : List PartValue) → all ≡ told ++ more → parts ++ all ≡ (parts ++ told) ++ more
behind parts told more all is = ap (λ ps. parts ++ ps) is ∙ sym (append_assoc parts told more)

module _ (files : Files) where
  -- the first of them, and then the others
  first_join : (input : List ℕ) (list : Text) (listed lists : List Text) (parts told : List PartValue)
      (r : Result (List PartValue) Run) (t : AllListed files input (list ∷ listed) told)
      → AreInRow ((parts ++ t.0) ++ t.1)
      → JoinsLists files (left_by (list ∷ []) input) (parts ++ t.0) lists r
      → JoinsLists files input parts (list ∷ lists) r
  first_join input list listed lists parts told r t row rest = grind (arith, common_steps, front_row)

  -- all of them
  pub all_join : (input : List ℕ) (lists : List Text) (parts told : List PartValue) → AllListed files input lists told
      → AreInRow (parts ++ told) → JoinsLists files input parts lists (Ok (parts ++ told))
  all_join input [] parts told none row = ap Ok (ap (λ ps. parts ++ ps) none ∙ append-nil parts)
  all_join input (list ∷ lists) parts told t row =
      let is = behind parts t.0 t.1 told t.2 in
      let all : AreInRow ((parts ++ t.0) ++ t.1) = subst AreInRow is row in
      let left = left_by (list ∷ []) input in
      first_join input list lists lists parts told (Ok (parts ++ told)) t all
      (subst (λ (ps : List PartValue). JoinsLists files left (parts ++ t.0) lists (Ok ps)) (sym is)
      (all_join left lists (parts ++ t.0) t.1 t.4 all))

  -- or up to the first that is not
  pub halt_join : (input : List ℕ) (before : List Text) (list : Text) (after : List Text) (parts told : List PartValue)
      (run : Run) → AllListed files input before told → AreInRow (parts ++ told)
      → Halts (parts ++ told) (is_input list) list (content_of list (left_by before input) files) run
      → JoinsLists files input parts (before ++ list ∷ after) (Err run)
  halt_join input [] list after parts told run none row halts =
      inl (
        run,
        refl,
        subst (λ (ps : List PartValue). Halts ps (is_input list) list (content_of list input files) run)
            (ap (λ ps. parts ++ ps) none ∙ append-nil parts) halts,
      )
  halt_join input (first ∷ before) list after parts told run t row halts =
      let is = behind parts t.0 t.1 told t.2 in
      let all : AreInRow ((parts ++ t.0) ++ t.1) = subst AreInRow is row in
      let left = left_by (first ∷ []) input in
      let content = content_of list (left_by before left) files in
      first_join input first before (before ++ list ∷ after) parts told (Err run) t all
      (halt_join left before list after (parts ++ t.0) t.1 run t.4 all
      (subst (λ (ps : List PartValue). Halts ps (is_input list) list content run) is halts))

-- a list whose lines were not joined is one that may halt
pub not_joined : (list : Bor Text) (first : Option (List ℕ)) (old new : Joiner) (fault : JoinFault)
    → IfSome first (λ text. (parts : List PartValue) → HasJoined old parts → StopsSo text parts fault)
    → IfSome first (λ text. JoinsList {T = Unit {0}} list.now (Some text) old new (Err (of_join fault list)))
not_joined list first old new fault stops = grind (arith, common_steps)
