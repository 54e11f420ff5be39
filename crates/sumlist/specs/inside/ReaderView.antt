-- A reader of names as contracts see it.
use Rattle.std.specs.Prelude.{[], None, Some}
use Rattle.sumlist.specs.Naming.{Reading}
use Rattle.sumlist.specs.declared.name_reader.NameReader.TheInside.{Inside}

abbrev pub seen : Inside → Reading
seen r = record { ahead = r.lines.ahead; name = r.lines.kept; fault = r.fault }

-- nothing was read
abbrev pub fresh : Reading
fresh = record { ahead = []; name = Some []; fault = None }
