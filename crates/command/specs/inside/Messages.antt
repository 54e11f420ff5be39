-- What is told on standard error in a line.
use Rattle.std.specs.Prelude.{[], ◌++◌}
use Rattle.std.specs.Fmt.{decimal}
use Rattle.std.specs.Option.{option_map_or}
use Rattle.request.specs.CommandLine.{Text}
use Rattle.command.specs.Visible.{visible}
use Rattle.command.specs.declared.fault.Message.{Message}

-- the line behind the name of the program
abbrev pub message_text : Message → Text
message_text m = visible m.name.now ++ (m.text.now ++ (option_map_or decimal m.number [] ++ m.rest.now))
