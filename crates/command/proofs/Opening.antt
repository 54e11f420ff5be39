-- How many files were opened.
use Rattle.std.proofs.lemmas.Grind.{common_steps}
use Rattle.std.proofs.Common.{◌≡◌, ℕ, ◌+◌, ◌<◌, ◌≤◌, List, [], ◌∷◌, ◌++◌, length, suc, ap, map, take, drop, get_or}
use Rattle.std.proofs.Common.{true, false, Option, Some, IfSome, arith, refl}
use Rattle.std.proofs.lemmas.List.Sums.{sum_by-append}
use Rattle.std.specs.Borrow.{Bor}
use Rattle.std.specs.List.{sum_by}
use Rattle.std.specs.Option.{option_map_or}
use Rattle.std.proofs.lemmas.Bool.Decides.{nat_tests}
use Rattle.hashes.specs.declared.share.Share.{Share}
use Rattle.request.specs.CommandLine.{Text}
use Rattle.sumlist.specs.Lines.{lines}
use Rattle.sumlist.specs.Report.{Files}
use Rattle.sumlist.specs.Shared.{every}
use Rattle.command.specs.Lines.{content_of, is_input, opens_of, part_opens}
use Rattle.command.specs.inside.Seen.{OpensAtMost, Seen, opens_from}
use Rattle.command.proofs.Names.{all_names, one_more}

-- ---- the names that a loop has gone through

module _ (given : List (Bor Text)) (i : ℕ) (d : Bor Text) (within : i < length given) (a b c : Seen)
    (before : OpensAtMost (sum_by opens_of (map (λ n. n.now) (take i given))) a b)
    (here : OpensAtMost (opens_of (get_or given i d).now) b c) where
  abbrev front : List Text
  front = map (λ n. n.now) (take i given)

  abbrev name : Text
  name = (get_or given i d).now

  -- up to the next one
  pub opens_more : OpensAtMost (sum_by opens_of (map (λ n. n.now) (take (i + 1) given))) a c
  opens_more = grind (arith, common_steps, one_more, sum_by-append)

  -- all of them are no fewer
  pub opens_all : OpensAtMost (sum_by opens_of (map (λ n. n.now) given)) a c
  opens_all =
      let rest = map (λ n. n.now) (drop (suc i) given) in
      let all : sum_by opens_of (map (λ n. n.now) given) ≡ sum_by opens_of (front ++ name ∷ rest)
      = ap (sum_by opens_of) (all_names given i d within) in
      let sum : sum_by opens_of (front ++ name ∷ rest) ≡ sum_by opens_of front + sum_by opens_of (name ∷ rest)
      = sum_by-append opens_of front (name ∷ rest) in
      let next : sum_by opens_of (name ∷ rest) ≡ sum_by opens_of (name ∷ []) + sum_by opens_of rest
      = sum_by-append opens_of (name ∷ []) rest in
      let one : sum_by opens_of (name ∷ []) ≡ 0 + opens_of name = refl in
      omega (arith, before, here, all, sum, next, one)

-- ---- the parts of a file

pub part_opens-share : {A : Type 0} (s : Share) (name : Text) (xs : List A) → 0 < s.others
    → part_opens s name xs ≡ length (every s.others s.waiting xs) + 2
part_opens-share s name xs some = grind (arith, common_steps, nat_tests)

-- a file with lines was opened, and then others for their parts
pub opens_beside : (s : Share) (parts name : Text) (first : Option (List ℕ)) (tree then_tree : Option Files)
    (list : Option (List ℕ)) (k l h i : ℕ) → then_tree ≡ tree
    → IfSome tree (λ files. (m : List ℕ) × (files parts ≡ Some m) × (list ≡ Some (drop 0 m))) → l ≤ k + 1
    → IfSome list (λ text. IfSome then_tree (λ files. h ≤ l + part_opens s name (lines text))) → i ≤ h
    → IfSome first (λ bytes. IfSome tree (λ files.
    i ≤ k + (1 + part_opens s name (option_map_or lines (files parts) []))))
opens_beside s parts name first tree then_tree list k l h i same opened one more last = grind (arith, common_steps)

-- ---- the names in a list

-- what was opened of a list of such pieces, where its bytes and the files are told
abbrev pub OpensListed : (List ℕ → List (List ℕ)) → Text → Option (List ℕ) → Option Files → (i j : ℕ) → Type 0
OpensListed pieces list first tree i j = IfSome first (λ bytes. IfSome tree (λ files.
    j ≤ i + (opens_of list + opens_from pieces (content_of list bytes files))))

module _ (pieces : List ℕ → List (List ℕ)) where
  -- the list is standard input
  pub opens_of_input : (list : Text) (first : Option (List ℕ)) (tree : Option Files) (i j : ℕ) → is_input list ≡ true
      → IfSome first (λ bytes. IfSome tree (λ files. j ≤ i + length (pieces bytes)))
      → OpensListed pieces list first tree i j
  opens_of_input list first tree i j is most = grind (arith, common_steps)

  -- it is a file that does not open
  pub opens_of_none : (list : Text) (first : Option (List ℕ)) (tree : Option Files) (i j : ℕ) → is_input list ≡ false
      → j ≤ i + 1 → OpensListed pieces list first tree i j
  opens_of_none list first tree i j is most = grind (arith, common_steps)

  -- it is a file that was opened, and closed
  pub opens_of_file : {F : Type 0} (list : Text) (remaining : F → Option (List ℕ)) (feed : F) (first : Option (List ℕ))
      (tree then_tree : Option Files) (i j k l : ℕ) → is_input list ≡ false
      → IfSome tree (λ files. (bytes : List ℕ) × (files list ≡ Some bytes) × (remaining feed ≡ Some bytes))
      → then_tree ≡ tree → j ≤ i + 1
      → IfSome (remaining feed) (λ bytes. IfSome then_tree (λ files. k ≤ j + length (pieces bytes))) → l ≤ k
      → OpensListed pieces list first tree i l
  opens_of_file list remaining feed first tree then_tree i j k l is opened same one more last = grind
      (arith, common_steps)

-- ---- behind a key

-- what was opened behind it, where that is told
pub opens_behind : (most : List ℕ → Files → ℕ) (first later : Option (List ℕ)) (tree then_tree : Option Files)
    (k i h j : ℕ) → later ≡ first → then_tree ≡ tree → h ≤ i + k
    → IfSome later (λ bytes. IfSome then_tree (λ files. j ≤ h + most bytes files))
    → IfSome first (λ bytes. IfSome tree (λ files. j ≤ i + (k + most bytes files)))
opens_behind most first later tree then_tree k i h j a b key more = grind (arith, common_steps)

-- nothing was
pub opens_key : (most : List ℕ → Files → ℕ) (first : Option (List ℕ)) (tree : Option Files) (k i j : ℕ) → j ≤ i + k
    → IfSome first (λ bytes. IfSome tree (λ files. j ≤ i + (k + most bytes files)))
opens_key most first tree k i j key = grind (arith, common_steps)
