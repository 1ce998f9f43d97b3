-- A turn leaves what its step leaves; after the last nothing is left.
use Rattle.std.proofs.Common.{ap, sym, subst, ◌∙◌, List, ℕ, arith}
use Rattle.std.specs.Slice.Iter.{chunks_exact_rest, chunks_exact_size}
use Rattle.rules.specs.Steps.{step}
use Rattle.steps.proofs.StepLaws.{step_met}
use mir.Val.{bool_byte}
use Rattle.bench.proofs.WalkLaws.{WalkTurn, ok_one, walk_begins, turn_goes, turn_ends}
use Rattle.bench.proofs.walks.stepped.Goals as goal

pub loop-four-init : goal.loop-four-init
loop-four-init c =
    let same = c.into_iter-four-iterator.ensures.into_iter_gives in record {
      size = ap chunks_exact_size same ∙ c.chunks_exact-four-items.ensures.size;
      turn = subst (λ (rest : List ℕ). WalkTurn c.args.board c.args.list.now c.args.board 0 rest) (sym (ap chunks_exact_rest same ∙ c.chunks_exact-four-items.ensures.rest)) (walk_begins _ _);
    }

pub loop-four-preserved : goal.loop-four-preserved
loop-four-preserved c =
    let next = c.in-Some.ensures.steps in record {
      size = next.0 ∙ c.loop-four.invariant.size;
      turn = turn_goes c.loop-four.invariant.turn c.in-Some.four.now (chunks_exact_rest c.next.new.self) next.1.0 (next.1.1 ∙ c.loop-four.invariant.size)
          (step_met _ _ c.step-outcome.result c.step-outcome.ensures ∙ ap (step c.loop-four.board) c.record_of.ensures) (c.from-count.ensures ∙ ap bool_byte c.is_ok.ensures.value ∙ ok_one _);
    }

pub returns : goal.returns
returns c = turn_ends c.loop-four.invariant.turn (omega (arith, c.in-None.ensures.steps.1.0, c.loop-four.invariant.size))
