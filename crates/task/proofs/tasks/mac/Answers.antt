use Rattle.std.proofs.Common.{◌≡◌, ◌∙◌, ◌-◌, ◌^◌, ℕ, List, Bool, Ok, ap, codes, refl, sym}
use Rattle.request.specs.CommandLine.{Given, given_of, has_flag}
use Rattle.task.specs.Hashing.{form_of}
use Rattle.task.specs.Tasks.{Source, mac, of_files, tags}
use Rattle.task.specs.inside.Steps.{key_of, mac_of}
use Rattle.task.specs.inside.Views.{key_shown}
use Rattle.task.specs.declared.hashing.Form.{Form}
use Rattle.task.specs.declared.tagging.Mac.{Mac}
use Rattle.task.proofs.Keys.{under_key_is}
use Rattle.task.proofs.tasks.mac.Goals as goal

-- what is asked for where nothing is wrong with the function and the key
asked_of : (g : Given) (form : Form) (m : Mac) (n : ℕ) (key : Source (List ℕ)) (is_raw : Bool) → form_of g ≡ Ok form
    → mac_of (2 ^ 64 - 1) g ≡ Ok (m, n) → key_of g ≡ Ok key → is_raw ≡ has_flag (codes "--raw") g
    → mac g ≡ of_files (tags m is_raw key) n g
asked_of g form m n key is_raw a b c d = rw (a, under_key_is (2 ^ 64 - 1) g, b, c, d) refl

pub returns : goal.returns
returns c =
    rw (asked_of (given_of c.args.request.now) c.in_ok-of.field-0 c.in_ok-mac.mac c.tag_len.result
    (key_shown c.in_ok-key.key) c.has-is_raw.result (sym c.in_ok-of.ensures)
    (sym c.in_ok-mac.ensures.value ∙ ap (λ n. Ok (c.in_ok-mac.mac, n)) (sym c.tag_len.ensures))
    c.in_ok-key.ensures c.has-is_raw.ensures)
    c.of_files.ensures
