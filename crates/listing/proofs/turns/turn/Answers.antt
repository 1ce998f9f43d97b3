-- The laws of a batch, on what the calls gave.
use native.Mathlib.Omega.{arith}
use Rattle.rules.proofs.SoundLaws.{sound_claims}
use Rattle.listing.proofs.LengthLaws.{lines_most}
use Rattle.listing.proofs.turns.TurnLaws.{turn_kept, turn_wrote}
use Rattle.listing.proofs.turns.turn.Goals as goal

pub shared_ref_as_front-write_rows : goal.shared_ref_as_front-write_rows
shared_ref_as_front-write_rows c = omega (arith, c.gather-g.ensures.count, lines_most c.batch_size.result c.args.p.next.at c.args.script.now, c.batch_size.ensures)

pub write_rows-w-requires : goal.write_rows-w-requires
write_rows-w-requires c = c.requires.1

pub returns-then-w-p : goal.returns-then-w-p
returns-then-w-p c =
    turn_kept c.args.p c.args.script.now c.args.out.now (sound_claims c.args.p.next.board c.requires.0) c.requires.1 (omega (arith, c.well_formed)) c.gather-g.result
    (rw c.batch_size.ensures at c.gather-g.ensures) c.run_batch-done.result c.run_batch-done.ensures.value c.write_rows-w.result _ c.write_rows-w.ensures c.if-w-p.true

pub returns : goal.returns
returns c =
    turn_wrote c.args.p c.args.script.now c.args.out.now (sound_claims c.args.p.next.board c.requires.0) c.requires.1 (omega (arith, c.well_formed)) c.gather-g.result
    (rw c.batch_size.ensures at c.gather-g.ensures) c.run_batch-done.result c.run_batch-done.ensures.value c.write_rows-w.result _ c.write_rows-w.ensures c.if-w-p.false
