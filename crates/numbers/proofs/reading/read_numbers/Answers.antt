-- `read_numbers`: how the pass begins, what a turn leaves, and what the pass says at its end.
use Rattle.std.proofs.Common.{◌∙◌, ◌||◌, ap, sym, refl}
use native.Mathlib.Omega.{arith}
use Rattle.fields.specs.Fields.{tab}
use Rattle.fields.proofs.PartLaws.{end_after}
use Rattle.numbers.proofs.PlaceLaws.{fields_turn, fields_past_end}
use Rattle.numbers.proofs.PassLaws.{next_of, all_of, pass_begins, pass_stores, pass_skips, pass_refuses, ends_refused, ends_good}
use Rattle.numbers.proofs.reading.read_numbers.Goals as goal
use Rattle.numbers.proofs.reading.read_numbers.Goals.{in-Ok, in-Ok+else-count-lt-ROOM, in-Err}

pub loop-at-init : goal.loop-at-init
loop-at-init c = record { few = omega arith; left = refl; pass = pass_begins }

pub loop-at-preserved : goal.loop-at-preserved
loop-at-preserved c =
    let inv = c.loop-at.invariant in
    let p = inv.pass in
    let turn = next_of c.loop-at.count _ (inv.left ∙ fields_turn c.loop-at.at c.args.line.now c.loop-at-test.true c.end_from-end.ensures) in
    let led = ap (λ t. c.loop-at.padded || t) c.has_leading_zero-padded.ensures in
    let read = sym c.read_number.ensures in
    record {
      few = omega (arith, inv.few, c.end_from-end.ensures, end_after tab c.loop-at.at c.args.line.now c.loop-at-test.true);
      left = turn.1;
      pass = elim c.match-read_number.branch [
        | in-Ok w ↦ pass_stores p _ turn.0 led (read ∙ w.in-Ok.is) w.refusal-is w.if-count-lt-ROOM.true w.list-is
        | in-Ok+else-count-lt-ROOM w ↦ pass_skips p _ turn.0 led (read ∙ w.in-Ok.is) w.refusal-is w.if-count-lt-ROOM.false w.list-is
        | in-Err w ↦ pass_refuses p _ turn.0 led (read ∙ w.in-Err.is) w.refusal-is
      ];
    }

pub returns-in-Some : goal.returns-in-Some
returns-in-Some c =
    let none = c.loop-at.invariant.left ∙ fields_past_end c.loop-at.at c.args.line.now (omega arith) in
    ends_refused c.loop-at.invariant.pass _ _ (all_of _ _ none) c.then_some.ensures c.or.ensures c.in-Some.is

pub returns-in_default : goal.returns-in_default
returns-in_default c =
    let none = c.loop-at.invariant.left ∙ fields_past_end c.loop-at.at c.args.line.now (omega arith) in
    ends_good c.loop-at.invariant.pass _ _ (all_of _ _ none) c.then_some.ensures c.or.ensures c.in_default.is
