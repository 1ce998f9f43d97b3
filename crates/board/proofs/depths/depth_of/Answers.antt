-- On a sound board the parents of the units in use are lower, which `depth_along` asks.
use Rattle.std.proofs.Common.{ℕ, Ok, ◌≡◌, true, false, ap, arith, suc-le-suc}
use borrow.Author.Tests.{le-leb, lt-leb}
use Rattle.rules.specs.Boards.{view}
use Rattle.rules.specs.Sound.{Sound, sound}
use Rattle.rules.specs.Depths.{depth_answer}
use Rattle.rules.proofs.SoundLaws.{sound_claims}
use Rattle.rules.proofs.Sheets.SoundLaws.{parent_below}
use Rattle.board.proofs.depths.depth_of.Goals as goal

pub returns-then-not-is_sound : goal.returns-then-not-is_sound
unfolding depth_answer
returns-then-not-is_sound c =
    let so : sound c.args.b ≡ false = cc in
    rw so

pub returns-then-u-b : goal.returns-then-u-b
unfolding depth_answer
returns-then-u-b c =
    let so : sound c.args.b ≡ true = cc in
    rw (so, lt-leb _ _ (suc-le-suc c.if-u-b.true))

pub depth_along-requires-clause-u_bound : goal.depth_along-requires-clause-u_bound
depth_along-requires-clause-u_bound c =
    let so : sound c.args.b ≡ true = cc in
    let h : Sound c.args.b = sound_claims c.args.b so in
    omega (arith, h.sheet.s1_sizes)

pub depth_along-requires-clause-by_index : goal.depth_along-requires-clause-by_index
depth_along-requires-clause-by_index c =
    let so : sound c.args.b ≡ true = cc in
    let h : Sound c.args.b = sound_claims c.args.b so in
    λ i p q. parent_below (view c.args.b) h.sheet i p (omega arith)

pub returns : goal.returns
unfolding depth_answer
returns c =
    let so : sound c.args.b ≡ true = cc in
    rw (so, le-leb _ _ c.if-u-b.false) (ap (λ (k : ℕ). Ok k) c.depth_along.ensures)
