-- What counts that fit say of the next, what a turn adds, and the verdict at the end.
use Rattle.std.proofs.Common.{◌≡◌, ◌+◌, true, false, cond, get_or, arith, rules}
use Rattle.rules.specs.Facts.{tests}
use Rattle.rules.specs.declared.Board.{Board}
use Rattle.rules.proofs.FactLaws.{claims}
use Rattle.board.proofs.TestLaws.{refuted, denied}
use Rattle.board.proofs.counts.CountLaws.{open_is, unit_counts, board_counts, none_seen, one_more, next_fits, never_wraps, balanced}
use Rattle.board.proofs.counts.counts_fit.Goals as goal
use Rattle.board.proofs.counts.counts_fit.Goals.{then-marked, else-marked, then-made-work, else-made-work}

pub loop-i-init : goal.loop-i-init
loop-i-init c = none_seen c.args.b.now (search rules) (search rules)

pub returns-then-not-unit_counts_fit : goal.returns-then-not-unit_counts_fit
returns-then-not-unit_counts_fit c =
    let b : Board = c.args.b.now in
    let h = c.loop-i in
    let open_now = open_is b.rounds.round in
    let unfit : tests (unit_counts b h.i) ≡ false = cc in
    refuted (board_counts b c.args.work) (λ q. denied (unit_counts b h.i) unfit (next_fits h.invariant (search rules) c.args.work (omega arith) q))

pub returns-in_default : goal.returns-in_default
returns-in_default c = refuted (board_counts c.args.b.now c.args.work) (never_wraps c.loop-i.invariant c.args.work (omega arith) (omega (arith, c.in_default.ensures)))

pub loop-i-preserved : goal.loop-i-preserved
loop-i-preserved c =
    let b : Board = c.args.b.now in
    let h = c.loop-i in
    let open_now = open_is b.rounds.round in
    let fit : tests (unit_counts b h.i) ≡ true = cc in
    let made : c.if-marked.marked_made ≡ h.marked_made + cond (get_or b.rounds.visited h.i false) (get_or b.created h.i 0) 0 =
    elim c.if-marked.branch [ then-marked w ↦ grind arith | else-marked w ↦ grind arith ] in
    let done : c.if-marked.marked_done ≡ h.marked_done + cond (get_or b.rounds.visited h.i false) (get_or b.processed h.i 0) 0 =
    elim c.if-marked.branch [ then-marked w ↦ grind arith | else-marked w ↦ grind arith ] in
    rw (c.from-made.ensures, c.in-Some.ensures.1) (one_more h.invariant (search rules) made done (omega arith) (claims (unit_counts b h.i) fit))

pub returns-then-made-work-2 : goal.returns-then-made-work-2
returns-then-made-work-2 c =
    let balance : c.loop-i.made ≡ c.loop-i.done + c.args.work = elim c.if-made-work.branch [ then-made-work w ↦ grind arith | else-made-work w ↦ grind arith ] in
    balanced c.loop-i.invariant (omega arith) c.args.work c.totals_fit.result balance c.totals_fit.ensures
