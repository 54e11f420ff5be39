-- A keyed function and its key, one judged after the other.
use Rattle.std.proofs.Common.{◌≡◌, ℕ, List, Bool, true, false, Option, Result, Ok, Err, codes, refl}
use Rattle.std.specs.Prelude.{is_some, unwrap_or, []}
use Rattle.std.specs.Bool.{beq}
use Rattle.std.specs.Option.{option_map_or}
use Rattle.request.specs.CommandLine.{Given, Text, text_of}
use Rattle.task.specs.Settings.{◌>>=◌, ◌>>◌, given, hexadecimal, unless}
use Rattle.task.specs.Tasks.{Source, in_file, one_key, these, under_key}
use Rattle.task.specs.inside.Steps.{key_of, mac_of}
use Rattle.task.specs.declared.tagging.Mac.{Mac}

-- the file that is named, or these bytes
abbrev chosen : Option (List ℕ) → Option Text → Source (List ℕ)
chosen key file = option_map_or (λ f. in_file f) file (these (unwrap_or key []))

-- a function, the length of its tags, and a key
abbrev all : Mac × ℕ → Source (List ℕ) → Result (Mac × ℕ × Source (List ℕ)) Text
all m key = Ok (m.0, m.1, key)

pub under_key_is : (most : ℕ) (g : Given)
    → under_key most g ≡ (mac_of most g >>= (λ m. key_of g >>= all m))
under_key_is most g =
    judged (mac_of most g) (given hexadecimal (codes "--key") g) (text_of (codes "--key-file") g)
  where
    settled : (b : Bool) (m : Mac × ℕ) (key : Source (List ℕ))
        → (unless b one_key >> all m key) ≡ ((unless b one_key >> Ok key) >>= all m)
    settled true m key = refl
    settled false m key = refl

    judged : (m : Result (Mac × ℕ) Text) (key : Result (Option (List ℕ)) Text) (file : Option Text)
        → (m >>= (λ (m : Mac × ℕ). key >>= (λ (k : Option (List ℕ)). unless (beq (is_some k) (is_some file)) one_key
        >> all m (chosen k file))))
        ≡ (m >>= (λ (m : Mac × ℕ). (key >>= (λ (k : Option (List ℕ)). unless (beq (is_some k) (is_some file)) one_key
        >> Ok (chosen k file))) >>= all m))
    judged (Err fault) key file = refl
    judged (Ok m) (Err fault) file = refl
    judged (Ok m) (Ok k) file = settled (beq (is_some k) (is_some file)) m (chosen k file)
