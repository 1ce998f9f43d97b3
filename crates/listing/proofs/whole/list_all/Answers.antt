-- Where the listing fits, one part holds it.
use mathlib.Core.Path.{refl, sym, ◌∙◌}
use Prim.Native.Nat.{◌<◌}
use native.Mathlib.Omega.{arith}
use lib.ListN.{length}
use borrow.Author.Tests.{leb-true, leb-false}
use Rattle.placing.proofs.WriteLaws.{refuses}
use Rattle.listing.specs.Scripts.{listing}
use Rattle.listing.proofs.CallLaws.{whole_listed}
use Rattle.listing.proofs.whole.list_all.Goals as goal

pub returns-then-not-listing_fits : goal.returns-then-not-listing_fits
returns-then-not-listing_fits c =
    let long : length c.args.out.now < length (listing c.args.script.now) = leb-false _ _ (sym c.listing_fits.ensures ∙ c.if-not-listing_fits.true) in
    refuses _ _ _ (omega (arith, long)) refl refl

pub returns : goal.returns
returns c =
    whole_listed c.args.script.now c.args.out.now refl (leb-true _ _ (sym c.listing_fits.ensures ∙ c.if-not-listing_fits.false)) c.list_part.ensures.0 c.list_part.ensures.1
