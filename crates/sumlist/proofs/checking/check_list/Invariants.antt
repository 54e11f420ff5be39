use Rattle.hashes.specs.declared.share.Share.{Share}
use Rattle.sumlist.proofs.Common.{◌≡◌, ◌+◌, ◌-◌, ◌^◌, ◌≤◌, CheckFault, List, Option, Result, Summary, [], length}
use Rattle.sumlist.proofs.Common.{Consumes, count_after, lines_of, no_lines, true, ℕ}
use Rattle.std.specs.Io.KnownBytes.{IsAtEnd}
use Rattle.std.specs.Prelude.{option_map}
use Rattle.sumlist.specs.inside.Stepped.{meaning_of}
use Rattle.sumlist.specs.Tally.{entries_of}
use Rattle.sumlist.specs.inside.Ahead.{Checks, OpensEach}
use Rattle.sumlist.proofs.checking.check_list.Given as goal

abbrev pub invariant-loop-reader : goal.invariant-loop-reader
invariant-loop-reader g l = record {
  goes : (r : Result Summary CheckFault) (n : ℕ) (c : Option (List ℕ)) (behind : Share)
      → Checks (g.L.Feed.remaining l.list) (g.T.Tree.files l.initial.tree)
      (meaning_of g.M.MakesTag.limit g.M.MakesTag.makes l.fn.entries) (option_map (λ n. n.now) l.fn.name)
      l.checker.share behind l.reader.ahead l.summary r (g.T.Tree.failure_count l.tree) n
      (g.W.Sink.shown l.out).contents c
      → Checks (g.L.Feed.remaining l.initial.list) (g.T.Tree.files l.initial.tree)
      (meaning_of g.M.MakesTag.limit g.M.MakesTag.makes l.fn.entries) (option_map (λ n. n.now) l.fn.name)
      l.initial.share behind [] no_lines r
      (g.T.Tree.failure_count l.initial.tree) n (g.W.Sink.shown l.initial.out).contents c;
  read : List ℕ;
  consumed : Consumes (g.L.Feed.remaining l.initial.list) (g.L.Feed.remaining l.list) read;
  once : (n : ℕ) → OpensEach (g.L.Feed.remaining l.list) l.reader.ahead (g.T.Tree.opens l.tree) n
      → OpensEach (g.L.Feed.remaining l.initial.list) [] (g.T.Tree.opens l.initial.tree) n;
  unreadable : g.T.Tree.failure_count l.tree
      ≡ count_after (g.T.Tree.failure_count l.initial.tree) l.summary.unreadable;
  opens : g.T.Tree.opens l.tree ≤ g.T.Tree.opens l.initial.tree + entries_of l.summary;
  ended : l.reader.is_at_end ≡ true → (l.reader.ahead ≡ []) × IsAtEnd (g.L.Feed.remaining l.list);
  counts : record {
    entries : l.checker.entries.now ≡ l.fn.entries;
    name : l.checker.name ≡ l.fn.name;
    number : l.number ≡ lines_of l.summary;
    total : l.reader.total ≡ length read;
    reads : g.L.Feed.failure_count l.list ≡ g.L.Feed.failure_count l.initial.list;
    writes : (g.W.Sink.shown l.out).failures ≡ (g.W.Sink.shown l.initial.out).failures;
    kept : g.T.Tree.files l.tree ≡ g.T.Tree.files l.initial.tree;
    few : lines_of l.summary + length l.reader.ahead ≤ l.reader.total;
    foreign : l.summary.foreign ≤ l.summary.malformed;
  };
}

abbrev pub decreases-loop-reader : goal.decreases-loop-reader
decreases-loop-reader g l = 2 ^ 64 + length l.reader.ahead - l.reader.total
