use Rattle.std.proofs.Common.{◌≡◌, ◌∙◌, ◌==◌, List, [], ◌∷◌, false, Some, ap, codes, length, map, refl, suc, sym}
use Rattle.std.specs.Borrow.{Bor}
use Rattle.std.specs.List.{list_any}
use Rattle.std.specs.Str.{bytes_eq}
use Rattle.request.specs.CommandLine.{Given, Text, all_of, given_of}
use Rattle.task.specs.Settings.{names_or_input}
use Rattle.task.proofs.Lists.{list_any-map}
use Rattle.task.proofs.sharing.names_input.Goals as goal

-- where words name files, these are all
named : (g : Given) (files : List (Bor Text)) → Some (map (λ n. n.now) files) ≡ all_of (codes "file") g.1
    → (length files == 0) ≡ false → map (λ n. n.now) files ≡ names_or_input g
named g files all some = rw (← all, ap (λ n. n == 0) (count files) ∙ some) refl
  where
    count : (files : List (Bor Text)) → length (map (λ n. n.now) files) ≡ length files
    count [] = refl
    count (x ∷ xs) = ap suc (count xs)

pub returns-else-is_empty : goal.returns-else-is_empty
returns-else-is_empty c =
    let files = c.in-Some.files.now in
    let all = rw c.in-Some.is at c.texts.ensures in
    let some = sym c.is_empty.ensures ∙ c.if-is_empty.false in
    c.contains.ensures.value ∙ list_any-map (λ name. bytes_eq name (codes "-")) (λ (n : Bor Text). n.now) files
    ∙ ap (list_any (λ name. bytes_eq name (codes "-"))) (named (given_of c.args.request.now) files all some)
