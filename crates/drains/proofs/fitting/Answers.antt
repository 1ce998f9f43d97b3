-- What refuses the length comes first, and then the room.
use Rattle.std.proofs.Common.{sym, ap, ◌∙◌, arith, Ok}
use Rattle.std.proofs.lemmas.Result.{err_from_is_err_and}
use borrow.Author.Tests.{le-leb, lt-leb}
use Rattle.rules.specs.Boards.{view}
use Rattle.rules.specs.Sheets.Longest.{longest_length}
use Rattle.drains.proofs.CheckLaws.{list_refused, list_by_room, told_is}
use Rattle.drains.proofs.fitting.Goals as goal

pub returns-in_err-longest : goal.returns-in_err-longest
returns-in_err-longest c =
    let p = err_from_is_err_and c.from_residual.result c.from_residual.ensures.1 in
    rw (p.1, p.2) (sym (list_refused c.args.b.now c.args.room _ (sym c.told_length.ensures ∙ c.in_err-longest.was)))

pub returns-then-longest-room : goal.returns-then-longest-room
returns-then-longest-room c =
    let told = sym c.told_length.ensures ∙ c.in_ok-longest.was in
    sym (list_by_room c.args.b.now c.args.room _ told (lt-leb (longest_length (view c.args.b.now)) c.args.room (omega (arith, told_is c.args.b.now _ told, c.if-longest-room.true))))

pub returns : goal.returns
returns c =
    let told = sym c.told_length.ensures ∙ c.in_ok-longest.was in
    ap Ok (told_is c.args.b.now _ told)
    ∙ sym (list_by_room c.args.b.now c.args.room _ told (le-leb (longest_length (view c.args.b.now)) c.args.room (omega (arith, told_is c.args.b.now _ told, c.if-longest-room.false))))
