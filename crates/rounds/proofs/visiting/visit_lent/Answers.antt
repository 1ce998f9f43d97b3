-- A bracket that holds tells that the board is sound and the unit in use, so the visit's sums fit; then the visit in the parts that the code
-- makes.
use Rattle.std.proofs.Common.{◌≡◌, ℕ, Ok, refl, sym, ap, ◌∙◌}
use Rattle.std.proofs.lemmas.Result.{err_from_is_err_and}
use Rattle.rules.specs.Rounds.{tallied}
use Rattle.rules.specs.Boards.{view, seen_of}
use Rattle.rules.specs.Sound.{Sound}
use Rattle.rules.specs.Visits.{visit_bracket}
use Rattle.rules.specs.declared.Board.{Board}
use Rattle.rules.proofs.JudgeLaws.{checks_answer}
use Rattle.rounds.proofs.visiting.Room.{processed_room, created_room, visit_place, visit_sound}
use Rattle.rounds.proofs.visiting.VisitOutcomes.{visit_refused, visit_accepted}
use Rattle.rounds.proofs.visiting.visit_lent.Goals as goal

pub returns-in_err-may_visit : goal.returns-in_err-may_visit
returns-in_err-may_visit c =
    let p = err_from_is_err_and c.from_residual.result c.from_residual.ensures.1 in
    rw (p.1, p.2) (visit_refused c.args.b.now c.args.u _ (sym c.may_visit.ensures ∙ c.in_err-may_visit.was))

pub bounds-b-i : goal.bounds-b-i
bounds-b-i c = rw c.from-i.ensures (visit_place c.args.b.now c.args.u (sym c.may_visit.ensures ∙ c.in_ok-may_visit.was))

pub bounds-b-i-2 : goal.bounds-b-i-2
bounds-b-i-2 c = rw c.from-i.ensures (visit_place c.args.b.now c.args.u (sym c.may_visit.ensures ∙ c.in_ok-may_visit.was))

pub tallied-k-requires : goal.tallied-k-requires
tallied-k-requires c =
    let b : Board = c.args.b.now in
    let passed : checks_answer (visit_bracket b c.args.u) ≡ Ok tt = sym c.may_visit.ensures ∙ c.in_ok-may_visit.was in
    let h : Sound b = visit_sound b c.args.u passed in
    (rw c.from-i.ensures (visit_place b c.args.u passed), (processed_room b h c.from-i.result, created_room b h c.from-i.result))

pub returns : goal.returns
returns c =
    let b : Board = c.args.b.now in
    visit_accepted b c.args.u c.tallied-k.result
    (c.tallied-k.ensures (seen_of (view b)) refl refl ∙ ap (λ (i : ℕ). tallied (seen_of (view b)) b.rounds i b.rounds.round) c.from-i.ensures)
    c.all_marked-last.result c.all_marked-last.ensures (sym c.may_visit.ensures ∙ c.in_ok-may_visit.was) c.left_by-b.result c.left_by-b.ensures c.found_by.result c.found_by.ensures
