-- What contracts see of a lent slice as a sink.
use Rattle.std.specs.Prelude.{ℕ, ◌-◌, List, drop, length, take, Some}
use Rattle.source.specs.Written.{Shown}
use Rattle.source.specs.declared.fixed_sink.FixedSink.{FixedSink}

-- what it shows: its failures, and the bytes at its front that were written
abbrev pub fixed_shown : FixedSink → Shown
fixed_shown s = record { failures = s.failures; contents = Some (take s.len s.buffer.now) }

-- what stands in the slice behind them
abbrev pub fixed_rest : FixedSink → List ℕ
fixed_rest s = drop s.len s.buffer.now

-- how many more bytes fit
abbrev pub fixed_room : FixedSink → ℕ
fixed_room s = length s.buffer.now - s.len
