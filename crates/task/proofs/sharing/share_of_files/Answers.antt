use Rattle.std.proofs.Common.{◌≡◌, ◌∙◌, Bool, Some, Ok, Err, codes, refl}
use Rattle.std.proofs.lemmas.Result.{err_from_is_err_and}
use Rattle.request.specs.CommandLine.{Given, Text, given_of, has_flag, text_of}
use Rattle.task.specs.Settings.{unless}
use Rattle.task.specs.Tasks.{share_of}
use Rattle.task.specs.inside.Seen.{fault_text}
use Rattle.task.specs.inside.Steps.{allows_share, reads_input, share_in}
use Rattle.task.proofs.sharing.share_of_files.Goals as goal

-- a share beside what is compared is refused
beside : (g : Given) (t fault : Text) (is_compared : Bool) → Some t ≡ text_of (codes "--share") g
    → Ok tt ≡ unless (has_flag (codes "--raw") g) (codes "--share: not with --raw\n")
    → Err fault ≡ unless is_compared (codes "--share: not with --verify\n")
    → Err fault ≡ share_of (allows_share is_compared g) g
beside g t fault is_compared is first second = rw (← is, ← first, ← second) refl

-- and one of standard input
of_input : (g : Given) (t fault : Text) (is_compared : Bool) → Some t ≡ text_of (codes "--share") g
    → Ok tt ≡ unless (has_flag (codes "--raw") g) (codes "--share: not with --raw\n")
    → Ok tt ≡ unless is_compared (codes "--share: not with --verify\n")
    → Err fault ≡ unless (reads_input g) (codes "--share: not of standard input\n")
    → Err fault ≡ share_of (allows_share is_compared g) g
of_input g t fault is_compared is first second third = rw (← is, ← first, ← second, ← third) refl

-- any other is read
allowed : (g : Given) (t : Text) (is_compared : Bool) → Some t ≡ text_of (codes "--share") g
    → Ok tt ≡ unless (has_flag (codes "--raw") g) (codes "--share: not with --raw\n")
    → Ok tt ≡ unless is_compared (codes "--share: not with --verify\n")
    → Ok tt ≡ unless (reads_input g) (codes "--share: not of standard input\n")
    → share_in t ≡ share_of (allows_share is_compared g) g
allowed g t is_compared is first second third = rw (← is, ← first, ← second, ← third) refl

pub returns-in_err-unless-2 : goal.returns-in_err-unless-2
returns-in_err-unless-2 c =
    let residual = c.from_residual-in_err-unless-2 in
    let e = err_from_is_err_and residual.result residual.ensures.1 in
    rw (e.1, e.2) (beside (given_of c.args.request.now) c.in-Some.text.now (fault_text c.in_err-unless-2.field-0.0)
    c.args.is_compared (rw c.in-Some.is at c.text.ensures) (rw c.has.ensures at c.in_ok-unless.ensures)
    c.in_err-unless-2.ensures)

pub returns-in_err-unless-3 : goal.returns-in_err-unless-3
returns-in_err-unless-3 c =
    let residual = c.from_residual-in_err-unless-3 in
    let e = err_from_is_err_and residual.result residual.ensures.1 in
    rw (e.1, e.2) (of_input (given_of c.args.request.now) c.in-Some.text.now (fault_text c.in_err-unless-3.field-0.0)
    c.args.is_compared (rw c.in-Some.is at c.text.ensures) (rw c.has.ensures at c.in_ok-unless.ensures)
    c.in_ok-unless-2.ensures (rw c.reads_input.ensures at c.in_err-unless-3.ensures))

pub returns : goal.returns
returns c =
    c.share_in.ensures.share
    ∙ allowed (given_of c.args.request.now) c.in-Some.text.now c.args.is_compared
    (rw c.in-Some.is at c.text.ensures) (rw c.has.ensures at c.in_ok-unless.ensures) c.in_ok-unless-2.ensures
    (rw c.reads_input.ensures at c.in_ok-unless-3.ensures)
