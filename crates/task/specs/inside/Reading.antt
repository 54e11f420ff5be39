-- What a task reads of standard input and of its file.
use Rattle.std.specs.Prelude.{ℕ, ◌*◌, ◌^◌, ◌&&◌, Bool, true, false, List, Option, Some, None, codes}
use Rattle.std.specs.Prelude.{if◌then◌else◌, nat_lt}
use Rattle.std.specs.List.{list_any}
use Rattle.std.specs.Option.{option_and_then}
use Rattle.std.specs.Str.{bytes_eq}
use Rattle.request.specs.CommandLine.{Text}
use Rattle.task.specs.Tasks.{Asked, Sum, checks, checks_tags, in_file, prints_line, prints_lines, prints_part}
use Rattle.task.specs.Tasks.{prints_parts, prints_starts, tags, these, verifies}

-- the key is that of a file
abbrev pub has_key_file : Sum → Bool
has_key_file (tags mac is_raw (in_file name)) = true
has_key_file sum = false

-- standard input is one of these names
abbrev pub have_input : List Text → Bool
have_input names = list_any (λ name. bytes_eq name (codes "-")) names

-- standard input is read beside files that must not take its bytes: it is a list of names, or one of those of digests,
-- the file of which parts are told, or a message under a key from a file
abbrev pub keeps_input : Asked → Bool
keeps_input (prints_lines sum (in_file list) share) = bytes_eq list (codes "-")
keeps_input (prints_lines sum (these names) share) = has_key_file sum && have_input names
keeps_input (prints_line sum wanted name file) = has_key_file sum && bytes_eq file (codes "-")
keeps_input (verifies parts file share) = bytes_eq file (codes "-")
keeps_input (checks kind reporting by lists) = have_input lists
keeps_input (checks_tags mac n key reporting by lists) = have_input lists
keeps_input task = false

-- so many chunks in bytes, where a u64 holds them
abbrev pub bytes_of : ℕ → Option ℕ
bytes_of chunks = if nat_lt (chunks * 1024) (2 ^ 64) then Some (chunks * 1024) else None

-- the most bytes of its file from a place on
abbrev pub most_read : Asked → Option ℕ
most_read (prints_part first chunks name) = option_and_then bytes_of chunks
most_read (prints_starts chunks name) = bytes_of chunks
most_read (prints_parts chunks name share) = if nat_lt 0 share.others then bytes_of chunks else None
most_read task = None

-- other runs do the other shares, and read the same files
abbrev pub is_shared : Asked → Bool
is_shared (prints_lines sum names share) = nat_lt 0 share.others
is_shared (checks kind reporting (these share) lists) = nat_lt 0 share.others
is_shared (checks_tags mac n key reporting (these share) lists) = nat_lt 0 share.others
is_shared (prints_parts chunks name share) = nat_lt 0 share.others
is_shared (verifies parts file share) = nat_lt 0 share.others
is_shared task = false
