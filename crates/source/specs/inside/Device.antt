-- What contracts see of a reader or writer of std as a feed or sink.
use Rattle.std.specs.Prelude.{ℕ, None}
use Rattle.source.specs.Written.{Shown}
use Rattle.source.specs.declared.device.Device.{Device}

-- the reader or writer itself
abbrev pub device_inner : {R : Type 0} → Device R → R
device_inner s = s.inner

-- how many of its reads or writes have failed
abbrev pub device_failures : {R : Type 0} → Device R → ℕ
device_failures s = s.failures

-- what it shows as a sink: it does not tell what was written
abbrev pub device_shown : {W : Type 0} → Device W → Shown
device_shown s = record { failures = s.failures; contents = None }
