-- By the length that is told, or by the refusal.
use Rattle.std.proofs.lemmas.Result.{err_from_is_err_and}
use Rattle.std.proofs.Common.{refl, sym, ◌∙◌}
use Rattle.drains.proofs.MeetLaws.{told_room, told_meets, refused_meets}
use Rattle.drains.proofs.lent.longest_drain.Goals as goal

pub returns-in_err-longest : goal.returns-in_err-longest
returns-in_err-longest c =
    let p = err_from_is_err_and c.from_residual.result c.from_residual.ensures.1 in
    rw (p.1, p.2) (refused_meets c.args.b c.args.list.now _ (sym c.in_err-longest.was ∙ c.fitting.ensures) _ refl)

pub write_longest-requires-clause-sound : goal.write_longest-requires-clause-sound
write_longest-requires-clause-sound c = (told_room c.args.b c.args.list.now c.fitting.result c.fitting.ensures _ c.in_ok-longest.was).0

pub write_longest-requires-clause-room : goal.write_longest-requires-clause-room
write_longest-requires-clause-room c = (told_room c.args.b c.args.list.now c.fitting.result c.fitting.ensures _ c.in_ok-longest.was).1

pub returns : goal.returns
returns c = told_meets c.args.b c.args.list.now _ (sym c.in_ok-longest.was ∙ c.fitting.ensures) _ refl c.write_longest.new.list c.write_longest.ensures
