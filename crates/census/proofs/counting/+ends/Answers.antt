-- What a turn of the loop reads, what it adds up, and that nothing wraps.
use Rattle.std.proofs.Common.{◌≡◌, ◌<◌, ℕ, suc, ◌-◌, List, [], ◌∷◌, ◌++◌, length, get_or, take, refl, sym, ap, ◌∙◌, arith, rules}
use Rattle.std.proofs.lemmas.List.{length_push}
use Rattle.std.proofs.lemmas.Slice.Zip.{zip_turn, zip_end}
use Rattle.refusals.specs.Numbers.{number_of}
use Rattle.rules.specs.Steps.{step}
use Rattle.rules.specs.declared.Board.{Board}
use Rattle.rules.specs.declared.StepRecord.{StepRecord}
use Rattle.steps.specs.NoStep.{no_step}
use Rattle.census.specs.Counting.{ends_from}
use Rattle.census.specs.declared.Ends.{Ends}
use Rattle.census.proofs.counting.TurnLaws.{Turn, Listed, plus_of, listed_within, listed_all, listed_choice, listed_answer, ready_next, turn_begins, turn_accepted, turn_refused, turn_ends, turn_fits, times_fit, sum_fits}
use Rattle.census.proofs.counting.+ends.Goals as goal
use Rattle.census.proofs.counting.+ends.Goals.{In-Some}

-- ---- a turn: the choice that it reads, and the number beside it
module _ (t : ℕ) (c : In-Some t) where
  abbrev steps : List StepRecord
  steps = take c.of_sizes-choices.result.count c.of_sizes-choices.result.steps

  abbrev turns : ℕ
  turns = length c.loop-choice.yielded

  listed : Listed c.args.b.now c.of_sizes-choices.result.count c.of_sizes-choices.result.steps c.answers_on-answers.result
  listed = record { small = (c.requires.1, c.requires.2); choices = c.of_sizes-choices.ensures.steps; long = search rules; answers = c.answers_on-answers.ensures }

  read : (turns < length steps) × (c.in-Some.choice.now ≡ get_or steps turns no_step) × (c.in-Some.answer.now ≡ get_or c.answers_on-answers.result turns 0)
  read =
      let pair =
      zip_turn steps c.answers_on-answers.result c.loop-choice.yielded c.into_iter-choice-iterator.result c.loop-choice.choice-iterator c.next.new.self c.next.result
      (rw (c.into_iter-choice-iterator.ensures.into_iter_gives, c.zip-choice-items.ensures.first) c.iter.ensures.rest) (rw c.into_iter-choice-iterator.ensures.into_iter_gives c.zip-choice-items.ensures.second.0)
      c.loop-choice.yielded_by (c.in-Some.choice, c.in-Some.answer) c.in-Some.is c.next.ensures.steps in
      (pair.0, pair.2 no_step, pair.3 0)

  answered : c.in-Some.answer.now ≡ number_of (step c.args.b.now c.in-Some.choice.now).answer
  answered = listed_answer listed read.0 read.1 read.2

  one_more : length (c.loop-choice.yielded ++ (c.in-Some.choice, c.in-Some.answer) ∷ []) ≡ suc turns
  one_more = omega (arith, length_push c.loop-choice.yielded (c.in-Some.choice, c.in-Some.answer))

  accepted : {next : Board} {part : Ends} {i : ℕ} → i ≡ suc turns → c.in-Some.answer.now ≡ 0 → next ≡ (step c.args.b.now c.in-Some.choice.now).board → part ≡ ends_from next (c.args.left - 1)
      → Turn c.args.b.now (c.args.left - 1) (plus_of c.loop-choice.sum part) c.loop-choice.refused i
  accepted e z n p = turn_accepted _ _ (listed_within listed read.0) c.loop-choice.invariant.turn e (listed_choice listed turns read.1) (sym answered ∙ z) n p

pub loop-choice-init : goal.loop-choice-init
loop-choice-init t c = record { callable = search rules; finite = search rules; turn = turn_begins _ _ }

pub ends-requires : goal.ends-requires
ends-requires t c = let next = ready_next c.in-Some.choice.now c.step.ensures.board (c.requires.0, c.requires.1, c.requires.2) in (omega arith, (next.0, next.1, next.2, omega arith))

pub plus-sum-requires : goal.plus-sum-requires
plus-sum-requires t c = sum_fits _ _ (c.requires.1, c.requires.2, omega arith) (accepted t (goal.at-plus-sum-requires t c).In-Some refl c.if-answer-eq0.true c.step.ensures.board c.ends.ensures)

pub loop-choice-preserved-then-answer-eq0 : goal.loop-choice-preserved-then-answer-eq0
loop-choice-preserved-then-answer-eq0 t c =
    let turn = (goal.at-loop-choice-preserved-then-answer-eq0 t c).In-Some in
    record { callable = search rules; finite = search rules; turn = rw c.plus-sum.ensures (accepted t turn (one_more t turn) c.if-answer-eq0.true c.step.ensures.board c.ends.ensures) }

pub loop-choice-preserved : goal.loop-choice-preserved
loop-choice-preserved t c =
    let turn = (goal.at-loop-choice-preserved t c).In-Some in
    record {
      callable = search rules;
      finite = search rules;
      turn =
          turn_refused _ _ (listed_within (listed t turn) (read t turn).0) c.loop-choice.invariant.turn (one_more t turn) (omega arith) (listed_choice (listed t turn) (turns t turn) (read t turn).1) (λ z.
          c.if-answer-eq0.false (answered t turn ∙ z));
    }

pub times-requires : goal.times-requires
times-requires t c = times_fit _ _ (c.requires.1, c.requires.2, omega arith) c.loop-choice.invariant.turn c.ends-same.ensures

pub plus-requires : goal.plus-requires
plus-requires t c = rw c.times.ensures (turn_fits _ _ (c.requires.1, c.requires.2, omega arith) c.loop-choice.invariant.turn c.ends-same.ensures)

pub returns : goal.returns
returns t c =
    let listed : Listed c.args.b.now c.of_sizes-choices.result.count c.of_sizes-choices.result.steps c.answers_on-answers.result
    = record { small = (c.requires.1, c.requires.2); choices = c.of_sizes-choices.ensures.steps; long = search rules; answers = c.answers_on-answers.ensures } in
    let all =
    zip_end (take c.of_sizes-choices.result.count c.of_sizes-choices.result.steps) c.answers_on-answers.result c.loop-choice.yielded c.into_iter-choice-iterator.result c.loop-choice.choice-iterator c.next.new.self c.next.result
    (rw (c.into_iter-choice-iterator.ensures.into_iter_gives, c.zip-choice-items.ensures.first) c.iter.ensures.rest) (rw c.into_iter-choice-iterator.ensures.into_iter_gives c.zip-choice-items.ensures.second.0)
    c.loop-choice.yielded_by c.in-None.is c.next.ensures.steps in
    (rw c.times.ensures at c.plus.ensures)
    ∙ turn_ends c.args.b.now (c.args.left - 1) c.loop-choice.invariant.turn (listed_all listed all) c.ends-same.ensures
    ∙ ap (λ (k : ℕ). ends_from c.args.b.now k) (omega arith)
