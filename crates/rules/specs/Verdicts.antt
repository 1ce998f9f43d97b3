-- What the verdict of the counting rounds says (M-105), of every accepted opening and every list of steps, beginnings and visits.
use Rattle.std.specs.Prelude.{◌≡◌, true, List, [], ◌∷◌, ◌++◌, ℕ, set, take, Some, Result, Ok}
use Rattle.refusals.specs.declared.Refusal.{Refusal}
use Rattle.refusals.specs.Numbers.{number_of}
use Rattle.rules.specs.Events.{after_all, tally_all}
use Rattle.rules.specs.Rounds.{all_marked}
use Rattle.rules.specs.Opening.{opening}
use Rattle.rules.specs.Visits.{visit}
use Rattle.rules.specs.Lists.{Event, begins, visits, events}
use Rattle.rules.specs.Drains.{Quiet}
use Rattle.rules.specs.Guarantee.{event_history}
use Rattle.rules.specs.Records.{One, Two, Board, Finding, AllQuiet}

-- ---- "quiet is given only if no unit was active and no work under way when round two opened, and none since"
-- the list es from the board f is `before`, then the visit of `last`, which opens round two, then `since`: round two is open and the
-- board quiet after that visit and after each part of `since` from its front, and quiet after the visit of u that gives the verdict
pub record QuietSince (f : Board) (es : List Event) (u : ℕ) : Type 0 where
  pub before : List Event
  pub last : ℕ
  pub since : List Event
  pub whole : es ≡ before ++ visits last ∷ since
  pub round_one : (after_all events f before).rounds.round ≡ Some One
  pub round_two : (k : ℕ) → (after_all events f (before ++ visits last ∷ take k since)).rounds.round ≡ Some Two
  pub quiet : (k : ℕ) → Quiet (after_all events f (before ++ visits last ∷ take k since))
  pub quiet_then : Quiet (visit (after_all events f es) u).board

-- of every accepted opening and list that led to b, where a visit of u on b finds x
abbrev pub QuietTells : Board → ℕ → Result Finding Refusal → Type 0
QuietTells b u x =
    (m d : ℕ) (ps : List ℕ) (es : List Event) → number_of (opening m d ps).answer ≡ 0 → b ≡ after_all events (opening m d ps).board es → x ≡ Ok AllQuiet
    → QuietSince (opening m d ps).board es u

-- ---- "If that was so already when round one opened, and no start came, the verdict is quiet"
-- the last visit of round two
pub record LastVisit (b : Board) (u : ℕ) : Type 0 where
  pub accepted : number_of (visit b u).finding ≡ 0
  pub round_two : b.rounds.round ≡ Some Two
  pub all_visited : all_marked b.n (set b.rounds.visited u true) ≡ true

-- of every accepted opening and list that led to b: xs, a beginning that left a quiet board, and ys with no accepted start
abbrev pub StillTells : Board → ℕ → Result Finding Refusal → Type 0
StillTells b u x =
    (m d : ℕ) (ps : List ℕ) (xs ys : List Event) → number_of (opening m d ps).answer ≡ 0 → b ≡ after_all events (opening m d ps).board (xs ++ begins ∷ ys)
    → Quiet (after_all events (opening m d ps).board (xs ++ begins ∷ [])) → tally_all events event_history.starts (after_all events (opening m d ps).board (xs ++ begins ∷ [])) ys ≡ 0
    → LastVisit b u → x ≡ Ok AllQuiet
