-- The lines that are printed of tags are a list of them, each of which is OK.
use Rattle.std.proofs.lemmas.Grind.{common_steps}
use Rattle.std.proofs.Common.{arith, ◌≡◌, ◌∙◌, ℕ, ◌≤◌, List, [], ◌∷◌, ◌++◌, length, Option, Some, None, ap, false, refl}
use Rattle.std.proofs.Common.{append_assoc}
use Rattle.std.specs.Prelude.{All, IsSomeAnd, flat_map, map}
use Rattle.std.proofs.lemmas.List.Elements.{All-head, All-tail}
use Rattle.hashes.specs.declared.alg.Alg.TheVariants.{Blake2b}
use Rattle.request.specs.CommandLine.{Text}
use Rattle.sumlist.specs.Entry.{IsEntry, Listing, written_line}
use Rattle.sumlist.specs.Lines.{lines}
use Rattle.sumlist.specs.Report.{AllAllowed, Files, keyed, told}
use Rattle.sumlist.specs.declared.verdict.Verdict.TheVariants.{Matches}
use Rattle.sumlist.proofs.Cutting.{HasNo-from_none, lines-ended}
use Rattle.sumlist.proofs.Deciding.{matches}
use Rattle.sumlist.proofs.Spelling.{written_spells, written_untagged}
use Rattle.command.specs.Laws.{IsTagged, TagsAreOk, line_of_file}
use Rattle.command.specs.Lines.{LineRule, line_beside, tag_line}

module _ (digits limit : ℕ) (f : List ℕ → List ℕ) (n : ℕ) (files : Files) where
  abbrev rule : LineRule
  rule = tag_line false digits limit f

  abbrev entry_of : Text → List ℕ → Listing
  entry_of name m = record { name = name; alg = Blake2b n; tag = f m }

  -- a line, and those after it
  cut : (name : Text) (m rest : List ℕ) → IsEntry (entry_of name m)
      → lines (line_beside name (f m) ++ rest) ≡ written_line (entry_of name m) ∷ lines rest
  cut name m rest i =
      let line = written_line (entry_of name m) in
      let same : line_beside name (f m) ++ rest ≡ line ++ 10 ∷ rest = simp append_assoc refl in
      ap lines same ∙ lines-ended line rest (HasNo-from_none 10 line (written_spells (entry_of name m) i).is_line.0)

  abbrev AllOk : List Text → Type 0
  AllOk names = AllAllowed files (keyed n limit f) (lines (flat_map (line_of_file rule files) names))
      (map (λ name. told name Matches) names)

  next_ok : (name : Text) (names : List Text) (content : Option (List ℕ)) → files name ≡ content
      → IsSomeAnd content (λ m. (length m ≤ limit) × IsEntry (entry_of name m)) → AllOk names → AllOk (name ∷ names)
  next_ok name names None is h rest = absurd h
  next_ok name names (Some m) is (fits, i) rest =
      rw (is, cut name m (flat_map (line_of_file rule files) names) i) (
        (
          entry_of name m,
          (written_untagged _ i, written_spells _ i, i.sized.1),
          refl,
          rw is (matches (limit, f) (f m) m fits refl),
        ),
        rest,
      )

  pub all_ok : (names : List Text) → All (IsTagged rule n files) names → AllOk names
  all_ok [] all = tt
  all_ok (name ∷ names) all =
      let Here = IsTagged rule n files in
      next_ok name names (files name) refl (All-head Here name names all) (all_ok names (All-tail Here name names all))

pub tags_ok : TagsAreOk
tags_ok h key n files names all = grind (arith, common_steps, all_ok)
