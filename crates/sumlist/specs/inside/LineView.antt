-- A reader of lines as contracts see it.
use Rattle.std.specs.Prelude.{take, drop, Some, if◌then◌else◌}
use Rattle.sumlist.specs.inside.Taking.{Cutting}
use Rattle.sumlist.specs.declared.line_reader.LineReader.TheInside.{Inside}

abbrev pub seen : Inside → Cutting
seen r = record {
  ahead = drop r.start (take r.end r.buffer);
  kept = if r.is_whole then Some (take r.len (drop r.from (take r.end r.buffer))) else r.held;
  is_whole = r.is_whole;
  total = r.total;
  is_at_end = r.is_at_end;
}
