-- The bytes counted and those still to come are those of the listing.
use Rattle.std.proofs.Common.{◌≡◌, length}
use Rattle.listing.proofs.PieceLaws.{turns_left}
use Rattle.listing.proofs.CallLaws.{Counting}
use Rattle.listing.proofs.whole.listing_length.Given as goal

abbrev pub invariant-loop-part : goal.invariant-loop-part
invariant-loop-part l = (length l.part ≡ 32768) × Counting l.script l.c l.n

abbrev pub decreases-loop-part : goal.decreases-loop-part
decreases-loop-part l = turns_left l.c l.script
