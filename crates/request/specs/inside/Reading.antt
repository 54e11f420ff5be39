-- What a reading of the words may answer.
use Rattle.std.specs.Prelude.{⊤, List, Result, Ok, Err}
use Rattle.request.specs.CommandLine.{AreRead, Text, given_of, kind_of}
use Rattle.request.specs.declared.request.Request.{Request}
use Rattle.request.specs.declared.request.WordsFault.{WordsFault}
use Rattle.request.specs.declared.request.WordsFault.TheVariants.{OutOfMemory, Words}

-- as `line` promises it: what the words give, a fault of theirs, or want of memory
abbrev pub IsRead : List Text → Result Request WordsFault → Type 0
IsRead words (Ok r) = AreRead words (Ok (given_of r))
IsRead words (Err OutOfMemory) = ⊤
IsRead words (Err (Words e)) = AreRead words (Err (kind_of e))
