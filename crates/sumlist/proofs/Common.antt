-- The words that the lemmas of this crate have in common, under one name.
pub use Rattle.hex.proofs.HexLemmas.{decode_of-encode_lower, decode_of-ok, length-encode_with}
pub use Rattle.hex.specs.Hex.{IsBytes, decode_of, encode_lower, lower_digits}
pub use Rattle.hashes.specs.Digest.{IsInRange, digest, digest_len, input_limit}
pub use Rattle.hashes.specs.declared.alg.Alg.{Alg}
pub use Rattle.hashes.specs.Kinds.{label_of}
pub use Rattle.hashes.specs.declared.kind.Kind.{Kind}
pub use Rattle.source.proofs.Writing.{Writing}
pub use Rattle.source.specs.Counts.{count_after}
pub use Rattle.source.specs.Written.{AppendsPrefix}
pub use Rattle.std.proofs.Common.{Bool, Contains, Decides, Err, IfSome, IsErr, IsUtf8, List, None, Ok}
pub use Rattle.std.proofs.Common.{Option, Result, Some, [], ap, append-nil, append_assoc, arith, codes, cond, decimal}
pub use Rattle.std.proofs.Common.{drop, eqb, false, if◌then◌else◌, inl, inr, leb, length, length-append}
pub use Rattle.std.proofs.Common.{length-take-le, refl, rules, slice_index, subst, sym, take, take-append-drop, true, ℕ}
pub use Rattle.std.proofs.Common.{◌%◌, ◌&&◌, ◌*◌, ◌++◌, ◌+◌, ◌-◌, ◌<◌, ◌^◌, ◌||◌, ◌∙◌, ◌∷◌, ◌≡◌, ◌≢◌, ◌≤◌, ◌⊎◌}
pub use Rattle.std.proofs.KnownBytes.{Appends-nil, Appends-trans}
pub use Rattle.std.proofs.Math.Seq.{take-append_seam}
pub use Rattle.std.proofs.lemmas.Bool.{cases_eq, cases_lt, false≢true}
pub use Rattle.std.proofs.lemmas.Bool.Decides.{nat_tests}
pub use Rattle.std.proofs.lemmas.Grind.{common_steps}
pub use Rattle.std.proofs.lemmas.List.{nil_from_length}
pub use Rattle.std.proofs.lemmas.List.Elements.{All-append, All-cons, All-nil, All-weaker, Contains-append_right}
pub use Rattle.std.proofs.lemmas.List.Elements.{Contains-push_cases}
pub use Rattle.std.proofs.lemmas.Option.{IfSome_then}
pub use Rattle.std.proofs.lemmas.Result.{MatchResult-from_err, err_from_is_err_and}
pub use Rattle.std.proofs.lemmas.Slice.Eq.{bytes_eq-Decides}
pub use Rattle.std.specs.Io.KnownBytes.{Consumes}
pub use Rattle.std.specs.List.{All}
pub use Rattle.sumlist.specs.Checked.{ListChecked}
pub use Rattle.sumlist.specs.Entry.{Fits, IsEntry, Listing, written}
pub use Rattle.sumlist.specs.Escape.{SpellsByte, SpellsName, escape_of, escaped, is_special, lead}
pub use Rattle.sumlist.specs.Line.{HasForm, IsLine, IsMalformed, IsUntagged, Spells, Says, core}
pub use Rattle.sumlist.specs.Lines.{lines}
pub use Rattle.sumlist.specs.Report.{AllAllowed, Allowed, Files, IsEntryIn, IsForeign, Meaning, Outcome, foreign, keyed}
pub use Rattle.sumlist.specs.Report.{maker_of, malformed, no_lines, skipped, text, told, unkeyed}
pub use Rattle.sumlist.specs.Report.{verdict_of, with_line}
pub use Rattle.sumlist.specs.Tagged.{IsLabel, tagged, tagged_len}
pub use Rattle.sumlist.specs.declared.checking.CheckFault.{CheckFault}
pub use Rattle.sumlist.specs.declared.summary.Mark.{Mark}
pub use Rattle.sumlist.specs.declared.summary.Summary.{Summary}
pub use Rattle.sumlist.specs.declared.verdict.Verdict.{Verdict}
pub use Rattle.sumlist.specs.declared.verdict.Verdict.TheVariants.{Differs, Matches, Missing, TooLong, Unreadable}
pub use Rattle.sumlist.specs.inside.Body.{IsName, escape_value, name_of, needs_escape, onto}
pub use Rattle.sumlist.specs.inside.Cut.{IsCut}
pub use Rattle.sumlist.specs.inside.Labels.{Ended, closing}
pub use Rattle.sumlist.specs.inside.Marks.{IsCounted, lines_of, unreadable_by, unreadable_count, unreadable_in}
pub use Rattle.sumlist.specs.inside.Reading.{IsBlank, IsMark}
pub use Rattle.sumlist.specs.inside.Stepped.{IsAllowed, LineChecked}
