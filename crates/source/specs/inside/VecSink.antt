-- What contracts see of a list that grows as a sink.
use Rattle.std.specs.Prelude.{Some}
use Rattle.source.specs.Written.{Shown}
use Rattle.source.specs.declared.vec_sink.VecSink.{VecSink}

-- what it shows: its failures and the bytes written
abbrev pub vec_shown : VecSink → Shown
vec_shown s = record { failures = s.failures; contents = Some s.bytes.items }
