-- On a board that is not sound no turn is taken; else each turn takes one step off what is left, and after the last the batch is there.
use Rattle.std.proofs.Common.{rules, arith, ℕ, ◌≡◌, ◌≤◌, sym, ap, ◌∙◌, length, length-take, take, min}
use Rattle.rules.specs.Runs.{batch}
use mir.Val.{bool_byte as from_bool}
use Rattle.rules.proofs.FactLaws.{true_not_false}
use Rattle.steps.proofs.BatchLaws.{turned, ended, asked_steps, filled_batch, refused_batch, batch_carries, filled, noughts}
use Rattle.std.specs.Prelude.{Ok, Err}
use Rattle.refusals.specs.declared.Refusal.TheVariants.{NotSound}
use Rattle.steps.proofs.batch.run_batch.Goals as goal
use Rattle.steps.proofs.batch.run_batch.Goals.{then-sound, else-sound}

pub loop-i-init : goal.loop-i-init
loop-i-init c = record {
  few = omega arith;
  is_sound = λ l. elim c.if-sound.branch [ then-sound w ↦ sym c.is_sound-sound.ensures ∙ w.if-sound.true | else-sound w ↦ absurd (omega (arith, l, w.most-is, length-take c.if-sound.most c.args.steps)) ];
  stays_sound = λ s. s;
  gives = λ i. filled c.args.b (take c.if-sound.most c.args.steps) 0 0 noughts noughts;
}

pub loop-i-preserved : goal.loop-i-preserved
loop-i-preserved c = turned _ _ _ _ _ _ _ _ c.loop-i.invariant _ _ _ _ c.loop-i-test.true c.advance-answer.ensures c.number_of.ensures (omega (arith, c.from.ensures ∙ ap from_bool c.is_ok.ensures.value))

-- what the loop leaves is the batch
made : (c : goal.Then-sound-2) → record { ran = Ok c.loop-i.zeros; board = c.loop-i.b; answers = c.loop-i.answers; debts = c.loop-i.debts } ≡ batch c.args.b (take c.args.count c.args.steps)
made c =
    let t = c.if-sound-2.true in
    let most : c.if-sound.most ≡ min c.args.count 512 =
    elim c.if-sound.branch [ then-sound w ↦ w.most-is ∙ w.min-most.ensures | else-sound w ↦ absurd (true_not_false (sym t ∙ w.if-sound.false)) ] in
    let few : length (take c.if-sound.most c.args.steps) ≤ 512 = omega (arith, length-take c.if-sound.most c.args.steps, most) in
    ended _ _ _ _ _ _ _ _ c.loop-i.invariant c.loop-i-test.false ∙ filled_batch c.args.b (take c.if-sound.most c.args.steps) (sym c.is_sound-sound.ensures ∙ t) few
    ∙ ap (batch c.args.b) (asked_steps c.args.steps c.args.count c.if-sound.most (search rules) most)

-- and where the board is not sound it leaves all as it was
left : (c : goal.Else-sound-2) → record { ran = Err NotSound; board = c.loop-i.b; answers = c.loop-i.answers; debts = c.loop-i.debts } ≡ batch c.args.b (take c.args.count c.args.steps)
left c =
    let f = c.if-sound-2.false in
    let none : c.if-sound.most ≡ 0 = elim c.if-sound.branch [ then-sound w ↦ absurd (true_not_false (sym w.if-sound.true ∙ f)) | else-sound w ↦ w.most-is ] in
    refused_batch c.args.b _ _ (sym c.is_sound-sound.ensures ∙ f)
    (ended _ _ _ _ _ _ _ _ c.loop-i.invariant c.loop-i-test.false ∙ ap (λ (k : ℕ). filled c.args.b (take k c.args.steps) 0 0 noughts noughts) none)

pub returns-then-sound-2-clause-value : goal.returns-then-sound-2-clause-value
returns-then-sound-2-clause-value c = made c

pub returns-then-sound-2-clause-carries : goal.returns-then-sound-2-clause-carries
returns-then-sound-2-clause-carries c = batch_carries _ _ _ (made c)

pub returns-else-sound-2-clause-value : goal.returns-else-sound-2-clause-value
returns-else-sound-2-clause-value c = left c

pub returns-else-sound-2-clause-carries : goal.returns-else-sound-2-clause-carries
returns-else-sound-2-clause-carries c = batch_carries _ _ _ (left c)
