use Rattle.std.proofs.Common.{◌≡◌, ◌-◌, ◌^◌, ℕ, List, [], ap, sym, ◌∙◌, add-zero}
use Rattle.words.specs.Blake2.{blake2s}
use Rattle.blake2.specs.Blake2.{Parameters, from_list, listed, message_limit}
use Rattle.blake2.specs.inside.Hashers.{Holds2s, hasher_parameters, parameters_2s}
use Rattle.blake2.specs.inside.Listed.{read_back}
use Rattle.blake2.specs.inside.Rooms.{room_is_2s}
use Rattle.blake2.proofs.blake2s.Blake2s.with_parameters.Goals as goal

pub returns : goal.returns
unfolding Holds2s parameters_2s
returns c =
    let e = c.in_ok-with_parameters.ensures in
    let h = c.in_ok-with_parameters.field-0 in
    let room = room_is_2s (record { hasher = h }) [] e.2 in
    let key : (from_list blake2s (listed (hasher_parameters h))).key ≡ c.args.key.now =
    ap (λ (q : Parameters). q.key) (read_back blake2s (hasher_parameters h) h.salt_whole h.personal_whole ∙ e.1) in
    (e.0, ap listed e.1, sym (add-zero _) ∙ room ∙ ap (λ (k : List ℕ). message_limit (2 ^ 64 - 1) 64 k) key, e.2)
