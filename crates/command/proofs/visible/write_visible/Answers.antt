use Rattle.std.proofs.Common.{◌≡◌, ◌∙◌, ℕ, ◌+◌, ◌<◌, List, [], ◌++◌, ap, drop, get_or, length, refl, sym, arith}
use Rattle.std.proofs.KnownBytes.{Appends-nil}
use Rattle.std.proofs.lemmas.Iterator.{YieldsList-from_chars}
use Rattle.std.proofs.lemmas.Iterator.Consumers.{YieldsList-end, YieldsList-turn}
use Rattle.std.proofs.lemmas.List.{at_drop_all, length_push}
use Rattle.std.specs.List.{flat_map}
use Rattle.std.specs.Str.{chars}
use Rattle.source.proofs.Writing.{Writes-exit, Writing-end, Writing-failed, Writing-step, flat_map-drop}
use Rattle.command.specs.Visible.{visible, visible_char}
use Rattle.command.proofs.visible.write_visible.Goals as goal

-- one more character is told
next_char : (cs : List ℕ) (n m c : ℕ) → (n < length cs) × (c ≡ get_or cs n c) → m ≡ n + 1
    → flat_map visible_char (drop n cs) ≡ visible_char c ++ flat_map visible_char (drop m cs)
next_char cs n m c turn more =
    rw more (flat_map-drop visible_char cs n c turn.0
    ∙ ap (λ (x : ℕ). visible_char x ++ flat_map visible_char (drop (n + 1) cs)) (sym turn.1))

pub loop-character-init : goal.loop-character-init
unfolding visible
loop-character-init g c = record { progress = record { front = []; whole = refl; done = (refl, Appends-nil _) } }

pub loop-character-preserved : goal.loop-character-preserved
loop-character-preserved g c =
    let turn = YieldsList-turn (YieldsList-from_chars c.args.name.now c.utf8.name cc) c.loop-character.yielded _
    c.loop-character.yielded_by _ _ c.in-Some.character c.in-Some.is c.next.ensures.steps in
    record {
      progress = Writing-step _ _ _ _ _ _ _
          (next_char _ _ _ _ turn (length_push c.loop-character.yielded c.in-Some.character))
          c.loop-character.invariant.progress c.in_ok-write_char.ensures;
    }

pub returns-in_err-write_char : goal.returns-in_err-write_char
returns-in_err-write_char g c =
    let turn = YieldsList-turn (YieldsList-from_chars c.args.name.now c.utf8.name cc) c.loop-character.yielded _
    c.loop-character.yielded_by _ _ c.in-Some.character c.in-Some.is c.next.ensures.steps in
    Writes-exit _ _ _ _ c.from_residual.ensures.0 (Writing-failed _ _ _ _ _ _ _
    (next_char _ _ _ _ turn refl) c.loop-character.invariant.progress c.in_err-write_char.ensures)

pub returns : goal.returns
returns g c =
    let all = YieldsList-end (YieldsList-from_chars c.args.name.now c.utf8.name cc) c.loop-character.yielded _
    c.loop-character.yielded_by _ _ c.in-None.is c.next.ensures.steps in
    Writing-end _ _ _ (rw (at_drop_all (flat_map visible_char) (chars c.args.name.now)
    (length c.loop-character.yielded) (omega (arith, all.1))) at c.loop-character.invariant.progress)
