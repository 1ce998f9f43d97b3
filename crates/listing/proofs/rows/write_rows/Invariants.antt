-- The lines that are left give what the whole gives.
use Rattle.std.proofs.Common.{◌≡◌, ◌≤◌, length}
use Rattle.std.specs.Iterator.Adapters.{zip_first, zip_second}
use Rattle.std.specs.Slice.Iter.{iter_rest}
use Rattle.listing.specs.Turns.{rows_into}
use Rattle.listing.proofs.rows.write_rows.Given as goal

abbrev pub invariant-loop-refusal : goal.invariant-loop-refusal
invariant-loop-refusal l =
    record {
      can_next : (goal.iterator-loop-refusal).can_next l.refusal-iterator;
      is_finite : (goal.iterator-loop-refusal).is_finite l.refusal-iterator;
      inside : l.to ≤ length l.out;
      gives : rows_into l.number (iter_rest (zip_first (zip_first l.refusal-iterator))) (iter_rest (zip_second (zip_first l.refusal-iterator))) (iter_rest (zip_second l.refusal-iterator)) l.to l.out
          ≡ rows_into l.line l.refusals l.answers l.debts l.at l.fn.out;
    }
