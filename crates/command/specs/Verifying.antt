-- The run of `part --verify`: the lines of parts and the bytes of a file, side by side.
use Rattle.std.specs.Prelude.{◌⊎◌, ◌≡◌, ℕ, ◌+◌, ◌*◌, List, [], ◌∷◌, ◌++◌, drop, fold, length, max, take, IsSomeAnd}
use Rattle.std.specs.Prelude.{Some, codes, false, if◌then◌else◌, nat_lt}
use Rattle.std.specs.Fmt.{decimal}
use Rattle.std.specs.List.{flat_map}
use Rattle.std.specs.Str.{bytes_eq}
use Rattle.b3.specs.Modes.{hash_parameters, tree_of}
use Rattle.b3.specs.Node.{cv}
use Rattle.b3.specs.declared.row.PartValue.{PartValue}
use Rattle.hashes.specs.declared.share.Share.{Share}
use Rattle.request.specs.CommandLine.{Text}
use Rattle.partlist.specs.Joined.{AllTell, AreInRow, IsWrongBehind, bytes_of}
use Rattle.partlist.specs.declared.fault.PartFault.{PartFault}
use Rattle.sumlist.specs.Lines.{lines}
use Rattle.sumlist.specs.Report.{Files, verdict_text}
use Rattle.sumlist.specs.Shared.{every}
use Rattle.sumlist.specs.declared.verdict.Verdict.{Verdict}
use Rattle.sumlist.specs.declared.verdict.Verdict.TheVariants.{Differs, Matches, Missing}
use Rattle.command.specs.Joining.{line_complaint}
use Rattle.command.specs.Lines.{content_of, is_input}
use Rattle.command.specs.Run.{IsUnread, Run, cannot_write, of_name, prints, stops}

-- whether these bytes reach the end of a part, and those at its place have its chaining value, and the status
abbrev pub verdict : List ℕ → PartValue → Verdict × ℕ
verdict m part = let x = take part.len (drop (1024 * part.first_chunk) m) in
    if nat_lt (length m) (1024 * part.first_chunk + part.len) then (Missing, 1)
    else if bytes_eq part.value (cv (tree_of hash_parameters part.first_chunk x)) then (Matches, 0) else (Differs, 1)

-- the line that gives the verdict
abbrev pub verdict_line : List ℕ → PartValue → Text
verdict_line m part = decimal part.first_chunk ++ 32 ∷ (decimal part.len ++ verdict_text (verdict m part).0)

-- the greatest status of any part
abbrev pub status : List ℕ → List PartValue → ℕ
status m parts = fold (λ s part. max s (verdict m part).1) 0 parts

-- how a run ends after the lines of these parts, of which some are its own, if others follow: there are none; the next
-- one describes no part that follows them; or a read of either file failed
abbrev pub VerifyEnds : Text → Text → (text m : List ℕ) → (told own : List PartValue) → List (List ℕ) → Run → Type 0
VerifyEnds parts name text m told own after run = ((after ≡ []) × (run ≡ (if nat_lt (bytes_of told) (length m)
    then stops (of_name name (codes ": bytes behind the last part\n")) else prints [] (status m own))))
    ⊎ ((line : List ℕ) × (rest : List (List ℕ)) × (after ≡ line ∷ rest) × (fault : PartFault)
    × IsWrongBehind told line fault
    × (run ≡ stops (of_name parts (codes ": line " ++ (decimal (length told + 1) ++ line_complaint fault)))))
    ⊎ IsUnread false parts (Some text) run ⊎ IsUnread (is_input name) name (Some m) run

-- the lines of a share of the parts so far were printed, and the run ends; or a write of them failed
abbrev pub Compares : Share → Text → Text → (text m : List ℕ) → Run → Type 0
Compares s parts name text m run = (before : List (List ℕ)) × (after : List (List ℕ)) × (told : List PartValue)
    × (lines text ≡ before ++ after) × AllTell before told × AreInRow told
    × let own = every s.others s.waiting told in let said = flat_map (verdict_line m) own in
    ((run ≡ record (stops cannot_write) { text = said; is_whole = false })
    ⊎ ((end : Run) × VerifyEnds parts name text m told own after end × (run ≡ record end { text = said })))

-- the run of `part --verify` over a share of the parts, for which `-` is a file of parts; the file to which the parts
-- belong may have any name
abbrev pub VerifyRuns : Share → Text → Text → Files → List ℕ → Run → Type 0
VerifyRuns s parts name files input run = let content = content_of name input files in
    IsUnread false parts (files parts) run ⊎ IsSomeAnd (files parts) (λ text.
    IsUnread (is_input name) name content run ⊎ IsSomeAnd content (λ m. Compares s parts name text m run))
