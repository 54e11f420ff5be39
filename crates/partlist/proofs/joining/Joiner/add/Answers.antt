use Rattle.std.proofs.Common.{◌≡◌, ◌+◌, ◌*◌, ◌∷◌, ◌++◌, [], length, ap, ◌∙◌, sym, subst, arith, length-append, refl}
use Rattle.std.proofs.lemmas.Bool.{false≢true}
use Rattle.partlist.specs.Joined.{IsWhole, bytes_of}
use Rattle.partlist.specs.inside.Joiner.{MayBeRowOf}
use Rattle.partlist.proofs.Behind.{next-is, row-first, row-more}
use Rattle.partlist.proofs.joining.Joiner.add.Goals as goal
use Rattle.partlist.proofs.joining.Joiner.add.Goals.{in-Some+in-Ok, in_default}

pub returns-then-start-end-clause-added : goal.returns-then-start-end-clause-added
returns-then-start-end-clause-added c = λ parts joined line tells.
    let end = c.count-end.ensures parts joined in
    let first = c.first_chunk.ensures in
    (c.args.part, tells, omega (arith, end, first, c.if-start-end.true))

pub returns-then-start-end-2-clause-added : goal.returns-then-start-end-2-clause-added
returns-then-start-end-2-clause-added c = λ parts joined line tells.
    let end = c.count-end.ensures parts joined in
    let first = c.first_chunk.ensures in
    (c.args.part, tells, omega (arith, end, first, c.if-start-end-2.true))

pub returns-in-Err-clause-added : goal.returns-in-Err-clause-added
returns-in-Err-clause-added c = λ parts joined line tells.
    let end = c.count-end.ensures parts joined in
    let first = c.first_chunk.ensures in
    let place : 1024 * c.args.part.first_chunk ≡ bytes_of parts
    = omega (arith, end, first, c.if-start-end.false, c.if-start-end-2.false) in
    let is = subst (λ r. MayBeRowOf r parts) c.in-Some.is joined.row in (
      c.args.part,
      tells,
      place,
      λ whole. false≢true (c.in-Err.ensures.next.1 (next-is _ _ _ c.args.part is.first (place ∙ sym is.count)
          (subst IsWhole (sym is.last) whole))),
    )

pub returns-clause-added : goal.returns-clause-added
returns-clause-added c = λ parts joined.
    let end = c.count-end.ensures parts joined in
    let first = c.first_chunk.ensures in
    let place : 1024 * c.args.part.first_chunk ≡ bytes_of parts
    = omega (arith, end, first, c.if-start-end.false, c.if-start-end-2.false) in
    let size : c.args.self.now.parts + 1 ≡ length (parts ++ c.args.part ∷ [])
    = omega (arith, joined.size, length-append parts (c.args.part ∷ [])) in
    record {
      size = size;
      row = elim c.match-self.branch [
        | in-Some+in-Ok w ↦
            let is = subst (λ r. MayBeRowOf r parts) w.in-Some.is joined.row in
            let push = w.in-Ok.ensures in
            subst (λ r. MayBeRowOf r (parts ++ c.args.part ∷ [])) (sym (ap (λ s. s.1.0) w.self-is))
            (row-more w.in-Some.row w.push.new.self parts c.args.part is (push.next.0 refl) push.holds push.count
            push.closed push.open push.first push.kept)
        | in_default w ↦
            let none : parts ≡ [] = subst (λ r. MayBeRowOf r parts) w.in_default.is joined.row in
            let of = w.of.ensures in
            subst (λ r. MayBeRowOf r (parts ++ c.args.part ∷ [])) (sym (ap (λ s. s.1.0) w.self-is))
            (rw none (row-first w.of.result c.args.part of.parameters of.first of.count of.closed of.open of.holds
            (rw none at place)))
      ];
    }
