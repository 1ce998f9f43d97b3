-- `tell`: no line is longer than its buffer, and what the output is handed of it is the line.
use Rattle.std.proofs.Common.{◌≡◌, sym, List, ℕ, OnOk, subst, arith}
use Rattle.std.proofs.Math.Seq.{length-take-le}
use Rattle.std.specs.Io.KnownBytes.{Appends}
use Rattle.sheetdrain.specs.Drains.{script_drain}
use Rattle.sheetdrain.specs.Lines.{line_of}
use Rattle.sheetdrain.proofs.LineLaws.{told_line_most, line_handed}
use Rattle.sheetdrain.proofs.tell.Goals as goal

pub slice_bounds-line-end : goal.slice_bounds-line-end
slice_bounds-line-end g c = omega (arith, c.put_told-n.ensures.0, told_line_most (script_drain c.args.script.now), c.put_told-n.auto)

pub slice_bounds-write_all-end : goal.slice_bounds-write_all-end
slice_bounds-write_all-end g c = sym (length-take-le _ _ (omega (arith, c.put_told-n.ensures.0, told_line_most (script_drain c.args.script.now), c.put_told-n.auto)))

pub returns : goal.returns
returns g c =
    let told : _ ≡ line_of (script_drain c.args.script.now) = line_handed _ _ _ _ (omega (arith, told_line_most (script_drain c.args.script.now))) c.put_told-n.ensures in
    subst (λ (x : List ℕ). OnOk c.write_all.result (Appends (g.W.Write.contents c.args.to.now) (g.W.Write.contents c.write_all.new.self) x)) told c.write_all.ensures.bytes
