use Rattle.std.proofs.Common.{◌≡◌, ◌*◌, ◌^◌, arith, inl, inr}
use Rattle.std.proofs.lemmas.Bool.{cases_lt}
use Rattle.std.proofs.lemmas.List.{length-take}
use Rattle.std.proofs.lemmas.Result.{err_from_is_err_and}
use Rattle.command.proofs.VerifiedParts.{judged_fault}
use Rattle.command.proofs.each.verdict_on.Goals as goal

pub part-requires : goal.part-requires
part-requires g c =
    let told = c.args.told.now in
    let limit = told.placed.1 in
    let room = c.room_of-room.ensures in
    let power = room.power in
    let least = c.min.ensures in
    let all = c.requires in
    let size = length-take (1024 * c.min.result) c.args.run.now in record {
      before = omega (arith, limit);
      run_is = elim (cases_lt c.room_of-room.result 1024) [
        | inl less ↦
            let is : c.min.result ≡ 2 ^ power.0 = omega (arith, least, less, power.1) in
            (power.0, omega (arith, size, all, is, least))
        | inr more ↦
            let is : c.min.result ≡ 2 ^ 10 = omega (arith, least, more) in
            (10, omega (arith, size, all, is))
      ];
      room_is = power;
      within = omega (arith, size, all, least);
      aligned = room.aligned;
      some = λ none. told.placed.0 cc;
    }

pub returns-in_err-found-clause-verdict : goal.returns-in_err-found-clause-verdict
returns-in_err-found-clause-verdict g c = λ m gives.
    let e = err_from_is_err_and c.from_residual.result c.from_residual.ensures.1 in
    rw (e.1, e.2) (judged_fault c.args.told.now c.room_of-room.result c.args.name.now m _
    (c.in_err-found.ensures.part _ gives) c.room_of-room.ensures.enough)
