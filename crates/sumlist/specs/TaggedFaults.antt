-- What writing a tagged line did.
use Rattle.std.specs.Prelude.{◌≡◌, ◌<◌, ◌≤◌, Result, Ok, Err}
use Rattle.source.specs.Written.{Done, Failed, Shown}
use Rattle.sumlist.specs.declared.labelled.TaggedFault.{TaggedFault}
use Rattle.sumlist.specs.declared.labelled.TaggedFault.TheVariants.{Write, TooLong}
use Rattle.sumlist.specs.Entry.{Listing}
use Rattle.sumlist.specs.Lines.{line_limit}
use Rattle.sumlist.specs.Tagged.{tagged, tagged_len}

-- the whole text, or a beginning of it if a write failed, or nothing if it is too long
abbrev pub WritesTagged : {T : Type 0} → Result T TaggedFault → Listing → Shown → Shown → Type 0
WritesTagged (Ok _) e old new = (tagged_len e.alg e.name ≤ line_limit) × Done old new (tagged e)
WritesTagged (Err Write) e old new = (tagged_len e.alg e.name ≤ line_limit) × Failed old new (tagged e)
WritesTagged (Err TooLong) e old new = (line_limit < tagged_len e.alg e.name) × (new ≡ old)
