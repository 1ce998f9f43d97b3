-- `write_part`: what was listed stands at the start of the buffer, and is what the output is handed.
use Rattle.std.proofs.Common.{List, ℕ, ◌≤◌, length, subst, arith}
use Rattle.std.proofs.Math.Seq.{length-take-le}
use Rattle.std.specs.Io.KnownBytes.{Appends}
use Rattle.sheetboard.proofs.OutputLaws.{counted_fits, handed_text, hands, goes_on}
use Rattle.sheetboard.proofs.write_part.Goals as goal

pub slice_bounds-hand_over-end : goal.slice_bounds-hand_over-end
slice_bounds-hand_over-end g c =
    omega (arith, counted_fits c.args.c c.args.script.now c.args.out.now c.list_part-part.ensures.0 c.list_part-part.ensures.1 c.unwrap_or-count.ensures, c.list_part-part.auto)

pub slice_bounds-hand_over-end-2 : goal.slice_bounds-hand_over-end-2
slice_bounds-hand_over-end-2 g c =
    let fits : c.unwrap_or-count.result ≤ length c.list_part-part.new.out =
    omega (arith, c.list_part-part.auto, counted_fits c.args.c c.args.script.now c.args.out.now c.list_part-part.ensures.0 c.list_part-part.ensures.1 c.unwrap_or-count.ensures) in
    omega (arith, length-take-le c.unwrap_or-count.result c.list_part-part.new.out fits)

pub returns-in_err-hand_over-clause-part : goal.returns-in_err-hand_over-clause-part
returns-in_err-hand_over-clause-part g c =
    hands c.args.c c.args.script.now c.args.out.now c.list_part-part.ensures.0 c.list_part-part.ensures.1 c.unwrap_or-count.ensures c.hand_over.ensures.count

pub returns-clause-part : goal.returns-clause-part
returns-clause-part g c =
    hands c.args.c c.args.script.now c.args.out.now c.list_part-part.ensures.0 c.list_part-part.ensures.1 c.unwrap_or-count.ensures c.hand_over.ensures.count

pub returns-clause-cursor : goal.returns-clause-cursor
returns-clause-cursor g c = goes_on c.args.c c.args.script.now c.args.out.now c.list_part-part.ensures.0 c.list_part-part.ensures.1 c.unwrap_or-count.ensures

pub returns-clause-bytes : goal.returns-clause-bytes
returns-clause-bytes g c =
    subst (λ (x : List ℕ). Appends (g.W.Write.contents c.args.to.now.writer) (g.W.Write.contents c.hand_over.new.self.writer) x)
    (handed_text c.args.c c.args.script.now c.args.out.now c.list_part-part.ensures.0 c.list_part-part.ensures.1 c.unwrap_or-count.ensures) c.in_ok-hand_over.ensures.bytes
