-- What was made and counted where standard input or a file was read.
use Rattle.std.proofs.lemmas.Grind.{common_steps}
use Rattle.std.proofs.Common.{◌≡◌, ◌∙◌, ℕ, Bool, true, false, List, [], Option, Some, IfSome, Result, ap, arith}
use Rattle.std.proofs.Common.{if◌then◌else◌}
use Rattle.request.specs.CommandLine.{Text}
use Rattle.source.specs.Counts.{count_after}
use Rattle.sumlist.specs.Report.{Files}
use Rattle.command.specs.Lines.{content_of, is_input}
use Rattle.command.specs.inside.Reading.{Reads, failed}
use Rattle.command.specs.inside.Troubles.{Counted}
use Rattle.command.specs.declared.fault.Fault.{Fault}
use Rattle.command.specs.declared.making.Made.{Made}
use Rattle.command.proofs.Refused.{same_reads}

content_of_input : (name : Text) (m : List ℕ) (files : Files) → is_input name ≡ true → content_of name m files ≡ Some m
content_of_input name m files input = ap (λ (b : Bool). if b then Some m else files name) input

-- what was made of standard input was made of the name's content
pub Reads-input : (name : Text) (first : Option (List ℕ)) (tree : Option Files) (limit : ℕ)
    (is : List ℕ → Made → Type 0) (r : Result Made Fault) → is_input name ≡ true
    → IfSome first (λ bytes. Reads limit is name (Some bytes) r)
    → IfSome first (λ bytes. IfSome tree (λ files. Reads limit is name (content_of name bytes files) r))
Reads-input name first tree limit is r input made = grind (arith, common_steps, content_of_input)

content_of_file : (name : Text) (input m : List ℕ) (files : Files) → is_input name ≡ false → files name ≡ Some m
    → content_of name input files ≡ Some m
content_of_file name input m files away is = ap (λ (b : Bool). if b then Some input else files name) away ∙ is

-- and so was what was made of a file that was opened
pub Reads-file : {F : Type 0} (name : Text) (remaining : F → Option (List ℕ)) (feed : F) (first : Option (List ℕ))
    (tree : Option Files) (limit : ℕ) (is : List ℕ → Made → Type 0) (r : Result Made Fault) → is_input name ≡ false
    → IfSome tree (λ files. (m : List ℕ) × (files name ≡ Some m) × (remaining feed ≡ Some m))
    → IfSome (remaining feed) (λ bytes. Reads limit is name (Some bytes) r)
    → IfSome first (λ bytes. IfSome tree (λ files. Reads limit is name (content_of name bytes files) r))
Reads-file name remaining feed first tree limit is r away opened made = grind (arith, common_steps, content_of_file)

of_input : (T : Type 0) (m : List ℕ) (r : Result T Fault) (i j u v : ℕ)
    → j ≡ count_after i (failed true (Some []) r).input → v ≡ u → Counted (failed true (Some m) r) i j u v
of_input T m r i j u v read same = grind (arith, common_steps, same_reads)

-- the failures of standard input were counted as it was read
pub Counted-input : (T : Type 0) (name : Text) (first : Option (List ℕ)) (tree : Option Files) (r : Result T Fault)
    (i j u v : ℕ) → is_input name ≡ true → j ≡ count_after i (failed true (Some []) r).input → v ≡ u
    → IfSome first (λ bytes. IfSome tree (λ files.
    Counted (failed (is_input name) (content_of name bytes files) r) i j u v))
Counted-input T name first tree r i j u v input read same = grind (arith, common_steps, content_of_input, of_input)

of_file : (T : Type 0) (m : List ℕ) (r : Result T Fault) (i u v w x y : ℕ) → v ≡ count_after u 0 → w ≡ 0
    → x ≡ count_after w (failed true (Some []) r).input → y ≡ count_after v x
    → Counted (failed false (Some m) r) i i u y
of_file T m r i u v w x y opened fresh read closed = grind (arith, common_steps, same_reads)

-- the failures of a file were counted when it was closed
pub Counted-file : {F : Type 0} (T : Type 0) (name : Text) (remaining : F → Option (List ℕ)) (feed : F)
    (first : Option (List ℕ)) (tree : Option Files) (r : Result T Fault) (i u v w x y : ℕ) → is_input name ≡ false
    → IfSome tree (λ files. (m : List ℕ) × (files name ≡ Some m) × (remaining feed ≡ Some m))
    → IfSome tree (λ files. v ≡ count_after u 0) → w ≡ 0 → x ≡ count_after w (failed true (Some []) r).input
    → y ≡ count_after v x → IfSome first (λ bytes. IfSome tree (λ files.
    Counted (failed (is_input name) (content_of name bytes files) r) i i u y))
Counted-file T name remaining feed first tree r i u v w x y away opened counted fresh read closed = grind
    (arith, common_steps, content_of_file, of_file)
