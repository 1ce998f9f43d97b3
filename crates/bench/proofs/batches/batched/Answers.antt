-- A batch leaves what its steps leave; after the last nothing is left.
use Rattle.std.proofs.Common.{ap, sym, subst, ◌∙◌, List, ℕ, arith}
use Rattle.std.specs.Slice.Iter.{chunks_rest, chunks_size}
use Rattle.bench.proofs.WalkLaws.{WalkTurn, walk_begins, turn_ends}
use Rattle.bench.proofs.batches.BatchLaws.{turn_batched}
use Rattle.bench.proofs.batches.batched.Goals as goal

pub loop-numbers-init : goal.loop-numbers-init
loop-numbers-init c =
    let same = c.into_iter-numbers-iterator.ensures.into_iter_gives in record {
      size = ap chunks_size same ∙ c.chunks-numbers-items.ensures.size;
      turn = subst (λ (rest : List ℕ). WalkTurn c.args.board c.args.list.now c.args.board 0 rest) (sym (ap chunks_rest same ∙ c.chunks-numbers-items.ensures.rest)) (walk_begins _ _);
    }

pub overflow_add-count : goal.overflow_add-count
overflow_add-count c =
    let next = c.in-Some.ensures.steps in
    let turn = turn_batched c.loop-numbers.invariant.turn c.in-Some.numbers.now (chunks_rest c.next.new.self) c.records_of.result next.1.0 next.1.1 c.loop-numbers.invariant.size c.records_of.ensures c.run_batch-done.ensures.value c.zeros_of-count.ensures in
    omega (arith, turn.counts)

pub loop-numbers-preserved : goal.loop-numbers-preserved
loop-numbers-preserved c =
    let next = c.in-Some.ensures.steps in record {
      size = next.0 ∙ c.loop-numbers.invariant.size;
      turn = turn_batched c.loop-numbers.invariant.turn c.in-Some.numbers.now (chunks_rest c.next.new.self) c.records_of.result next.1.0 next.1.1 c.loop-numbers.invariant.size c.records_of.ensures c.run_batch-done.ensures.value c.zeros_of-count.ensures;
    }

pub returns : goal.returns
returns c = turn_ends c.loop-numbers.invariant.turn (omega (arith, c.in-None.ensures.steps.1.0))
