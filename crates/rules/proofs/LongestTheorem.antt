-- The list of steps (M-109) is a longest drain of a board, by any free slot.
use mathlib.Core.Path.{ap, ◌∙◌}
use mathlib.Core.List.{List}
use native.Mathlib.Omega.{arith}
use Rattle.rules.specs.Boards.{view}
use Rattle.rules.specs.Lists.{after}
use Rattle.rules.specs.Sheets.Finished.{verdict as sheet_verdict}
use Rattle.rules.specs.Sheets.Longest.{longest_list}
use Rattle.rules.specs.Longest.{ListIsLongest}
use Rattle.rules.proofs.FinishedLaws.{verdict_shown}
use Rattle.rules.proofs.Projection.{list_keeps_sound, steps_after, drain_shown}
use Rattle.rules.proofs.Sheets.EntryLaws.{empty_blank}
use Rattle.rules.proofs.Sheets.Potential.{potential_less}
use Rattle.rules.proofs.Sheets.DrainLaws.{drain_length}
use Rattle.rules.proofs.Sheets.LongestLaws.{length_list, list_leaves, list_finishes}
use Rattle.rules.specs.Records.{StepRecord}

pub list_is_longest : ListIsLongest
unfolding ListIsLongest
list_is_longest b s h q l e =
    let rs : List StepRecord = longest_list (view b) s in
    let free = empty_blank (view b) h.sheet s e in
    let exact = length_list (view b) s h.sheet in
    record {
      is_drain = (drain_shown b rs h).1 (list_leaves (view b) s h.sheet q l free).0;
      exact = exact;
      longest = λ qs z. omega (arith, exact, (drain_length (view b) qs h.sheet q ((drain_shown b qs h).0 z)).0);
      finishes = verdict_shown (after b rs) (list_keeps_sound b rs h) ∙ ap sheet_verdict (steps_after b rs h) ∙ list_finishes (view b) s h.sheet q l free;
      bounded = omega (arith, exact, potential_less (view b) h.sheet);
    }
