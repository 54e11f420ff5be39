use Rattle.std.proofs.Common.{◌≡◌, ◌∙◌, ◌-◌, ◌^◌, ap, arith, length, take_all}
use Rattle.b3.specs.Bytes.{slice}
use Rattle.b3.specs.Modes.{keyed_parameters, keyed_root}
use Rattle.b3.specs.inside.Hasher.{Holds}
use Rattle.blake2.specs.Blake2.{blake2, from_list, unsalted}
use Rattle.blake2.specs.inside.Hashers.{Holds2b}
use Rattle.words.specs.Blake2.{blake2b}
use Rattle.command.specs.declared.making.Made.TheVariants.{Output, Tag}
use Rattle.command.proofs.MacLines.{room_under, within}
use Rattle.command.proofs.Taken.{taken_made}
use Rattle.command.proofs.Outputs.{output_of_all}
use Rattle.command.specs.inside.Keys.{made_bytes}
use Rattle.command.proofs.digests.tag_of_feed.Goals as goal

pub returns-in_ok-pump-in-Blake2b-clause-made : goal.returns-in_ok-pump-in-Blake2b-clause-made
returns-in_ok-pump-in-Blake2b-clause-made g c =
    let key = c.args.keyed.now.key.items in
    let made = rw c.as_slice-key.ensures.value at (rw c.unwrap-hasher.ensures at c.keyed.ensures) in
    let takes = within 1 64 (length key) (rw c.in-Blake2b.is at c.args.keyed.now.takes) in
    rw c.in-Blake2b.is (taken_made Holds2b _ _ (g.F.Feed.remaining c.args.feed.now) _ _ (2 ^ 128 - 1 - 128)
    (λ m x. made_bytes x ≡ blake2 blake2b (unsalted blake2b c.in-Blake2b.length key) m) (Tag c.finish.result)
    c.in_ok-pump-in-Blake2b.ensures.appended c.in_ok-pump-in-Blake2b.ensures.room
    (made.2 ∙ room_under (2 ^ 128 - 1) 128 key takes.0) (λ m taken. c.finish.ensures.digest m (taken _ made.3)
    ∙ ap (λ p. blake2 blake2b (from_list blake2b p) m) (c.pump.ensures.kept ∙ made.1)))

pub returns-in_ok-pump-in-Blake3-clause-made : goal.returns-in_ok-pump-in-Blake3-clause-made
returns-in_ok-pump-in-Blake3-clause-made g c =
    let key = c.args.keyed.now.key.items in
    let below = c.in-Some-default-empty.len_below in
    let sum = c.in-Some-default-empty.ensures.cases.2 in
    let sized : length c.as_slice-key.result.now ≡ 32 = omega arith in
    let whole = c.in-Some-default-empty.ensures.cases.0 ∙ take_all 32 c.as_slice-key.result.now (omega arith)
    ∙ c.as_slice-key.ensures.value in
    rw c.in-Blake3.is (taken_made Holds _ _ (g.F.Feed.remaining c.args.feed.now) _ _ (2 ^ 64 - 1)
    (λ m x. made_bytes x ≡ slice (keyed_root key m) 0 c.in-Blake3.length) (Output c.output.result c.in-Blake3.length)
    c.in_ok-pump-in-Blake3.ensures.appended c.in_ok-pump-in-Blake3.ensures.room c.keyed-hasher.ensures.room
    (output_of_all _ _ c.output.result _ _ _ (c.keyed-hasher.ensures.parameters ∙ ap keyed_parameters whole)
    c.pump-in-Blake3.ensures.kept c.keyed-hasher.ensures.holds c.output.ensures.root c.output.ensures.position))
