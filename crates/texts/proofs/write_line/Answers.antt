-- `write_line`: a line at the start of the lent rest of a buffer is a line at its place of the whole.
use mathlib.Core.Path.{refl}
use native.Mathlib.Omega.{arith}
use Rattle.placing.proofs.WriteLaws.{refuses, from_rest_start}
use Rattle.texts.proofs.write_line.Goals as goal

pub returns-then-at-out : goal.returns-then-at-out
returns-then-at-out g c = refuses _ _ _ (omega arith) refl refl

pub returns : goal.returns
returns g c = from_rest_start _ _ _ (omega arith) c.state_line.ensures
