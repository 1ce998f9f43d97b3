-- A sound board by its debt, any other by 30; the guarantee, whatever the answer.
use Rattle.refusals.specs.declared.Refusal.TheVariants.{NotSound}
use Rattle.refusals.specs.declared.Refusal.{Refusal}
use Rattle.std.specs.Prelude.{Result, Ok, Err}
use Rattle.std.proofs.Common.{◌≡◌, true, false, [], sym, subst, arith}
use borrow.Author.Tests.{eq-eqb, ne_eqb}
use Rattle.rules.specs.Events.{after_all}
use Rattle.rules.specs.Sound.{sound}
use Rattle.rules.specs.Finished.{verdict, Complete}
use Rattle.rules.specs.Guarantee.{Carries}
use Rattle.rules.specs.declared.Board.{Board}
use Rattle.rules.specs.declared.Verdict.{Verdict}
use Rattle.rules.specs.declared.Verdict.TheVariants.{Working, Finished}
use Rattle.rules.proofs.FinishedLaws.{finished_tells}
use Rattle.rules.proofs.Theorem.{carries}
use Rattle.board.proofs.finished.Goals as goal

none_taken : (b : Board) → Carries b [] b
unfolding after_all
none_taken b = carries b []

told_so : (b : Board) (v : Result Verdict Refusal) → v ≡ verdict b → (v ≡ Ok Finished → Complete b) × (sound b ≡ true → Complete b → v ≡ Ok Finished)
told_so b v e = subst (λ (w : Result Verdict Refusal). (w ≡ Ok Finished → Complete b) × (sound b ≡ true → Complete b → w ≡ Ok Finished)) (sym e) (finished_tells b)

not_sound : (b : Board) → sound b ≡ false → Err NotSound ≡ verdict b
unfolding verdict
not_sound b e = rw e

paid : (b : Board) → sound b ≡ true → b.debt ≡ 0 → Ok Finished ≡ verdict b
unfolding verdict
paid b e d = rw (e, eq-eqb b.debt 0 d)

owing : (b : Board) → sound b ≡ true → (b.debt ≡ 0 → ⊥) → Ok Working ≡ verdict b
unfolding verdict
owing b e d = rw (e, ne_eqb b.debt 0 d)

pub returns-then-not-is_sound : goal.returns-then-not-is_sound
returns-then-not-is_sound c =
    let e : Err NotSound ≡ verdict c.args.b = not_sound c.args.b (cc) in
    record { told = e; complete = told_so c.args.b (Err NotSound) e; carried = none_taken c.args.b }

pub returns-then-b-eq0 : goal.returns-then-b-eq0
returns-then-b-eq0 c =
    let e : Ok Finished ≡ verdict c.args.b = paid c.args.b (cc) (omega arith) in
    record { told = e; complete = told_so c.args.b (Ok Finished) e; carried = none_taken c.args.b }

pub returns : goal.returns
returns c =
    let e : Ok Working ≡ verdict c.args.b = owing c.args.b (cc) (λ d. omega arith) in
    record { told = e; complete = told_so c.args.b (Ok Working) e; carried = none_taken c.args.b }
