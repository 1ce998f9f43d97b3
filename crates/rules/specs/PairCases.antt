-- Worked pairs of steps (M-107): independent ones, and for each premise a pair that shows what it is for.
use Rattle.std.specs.Prelude.{◌≡◌, true, false, List, [], ◌∷◌, ℕ}
use Rattle.refusals.specs.Numbers.{number_of}
use Rattle.rules.specs.Actions.{action_of}
use Rattle.rules.specs.Letters.{letters}
use Rattle.rules.specs.Sheets.Touching.{Spot, the_unit, the_slot, spots_of, touched, among, apart}
use Rattle.rules.specs.Boards.{view}
use Rattle.rules.specs.Opening.{opening}
use Rattle.rules.specs.Steps.{step}
use Rattle.rules.specs.Lists.{after, answers}
use Rattle.rules.specs.Orders.{DebtKept, Independent}
use Rattle.rules.specs.Cases.{start, send, deliver, rest, tick, release, move}
use Rattle.rules.specs.Records.{Board, StepRecord, Outcome}

-- what a pair shows: it is independent; it is so only since a send's v or a move's p is not touched; both steps touch the spot; the
-- first changes the debt. Of the last two, what the steps answer in the other order
pub data Shows : Type 0 where
  free : Shows
  crosses : Shows
  meets : Spot → List ℕ → Shows
  owes : List ℕ → Shows

-- two steps on the board that a list leaves of an accepted opening
pub record Pair : Type 0 where
  pub slots : ℕ
  pub delay : ℕ
  pub parents : List ℕ
  pub before : List StepRecord
  pub one : StepRecord
  pub two : StepRecord
  pub shows : Shows

abbrev pub pair_opened : Pair → Outcome
pair_opened p = opening p.slots p.delay p.parents

-- all that a step's letters name, a send's v and a move's p among it
abbrev pub named_spots : StepRecord → List Spot
named_spots r = spots_of r (letters (action_of r.kind))

abbrev pub ShownBy : Board → StepRecord → StepRecord → Shows → Type 0
ShownBy b q r free = Independent b q r
ShownBy b q r crosses = Independent b q r × (apart (named_spots q) (named_spots r) ≡ false)
ShownBy b q r (meets x ks) =
    (among x (touched (view b) q) ≡ true) × (among x (touched (view b) r) ≡ true) × DebtKept b q × DebtKept (step b q).board r × (answers b (r ∷ q ∷ []) ≡ ks)
ShownBy b q r (owes ks) =
    (apart (touched (view b) q) (touched (view b) r) ≡ true) × (answers b (q ∷ r ∷ []) ≡ 0 ∷ 0 ∷ []) × ((step b q).board.debt ≡ b.debt → ⊥) × (answers b (r ∷ q ∷ []) ≡ ks)

abbrev pub AllShown : List Pair → Type 0
AllShown [] = Unit {0}
AllShown (p ∷ ps) = (number_of (pair_opened p).answer ≡ 0) × ShownBy (after (pair_opened p).board p.before) p.one p.two p.shows × AllShown ps

-- four units, unit 3 under unit 1: units 0, 1 and 2 are active, unit 3 waits, and work for unit 1 is in slot 0
abbrev pub on_four : StepRecord → StepRecord → Shows → Pair
on_four q r x = record {
  slots = 4;
  delay = 1;
  parents = 0 ∷ 0 ∷ 1 ∷ [];
  before = start 0 ∷ send 0 1 0 ∷ deliver 0 ∷ send 0 2 0 ∷ deliver 0 ∷ send 1 3 0 ∷ deliver 0 ∷ send 2 1 0 ∷ rest 3 ∷ [];
  one = q;
  two = r;
  shows = x;
}

-- two units and a slot
abbrev pub on_two : List StepRecord → StepRecord → StepRecord → Shows → Pair
on_two rs q r x = record { slots = 1; delay = 0; parents = 0 ∷ []; before = rs; one = q; two = r; shows = x }

unfoldable pub pairs : List Pair
pairs =
    on_four (send 0 2 1) (tick 3) free
    ∷ on_four (deliver 0) (rest 2) free
    ∷ on_four (rest 1) (rest 2) free
    ∷ on_four (send 0 1 1) (rest 1) crosses
    ∷ on_four (send 1 2 1) (send 2 1 2) crosses
    ∷ on_four (deliver 0) (send 0 1 1) free
    ∷ on_four (move 3 2) (deliver 0) free
    ∷ on_four (move 2 1) (rest 1) crosses
    ∷ on_four (send 1 0 1) (rest 1) (meets (the_unit 1) (0 ∷ 31 ∷ []))
    ∷ on_four (tick 3) (release 3 1) (meets (the_unit 3) (40 ∷ 0 ∷ []))
    ∷ on_four (move 3 2) (tick 3) (meets (the_unit 3) (0 ∷ 0 ∷ []))
    ∷ on_four (deliver 0) (send 2 1 0) (meets (the_slot 0) (34 ∷ 0 ∷ []))
    ∷ on_two (start 0 ∷ send 0 1 0 ∷ []) (deliver 0) (rest 1) (meets (the_unit 1) (31 ∷ 0 ∷ []))
    ∷ on_two (start 0 ∷ []) (rest 0) (start 1) (owes (37 ∷ 0 ∷ []))
    ∷ on_two (start 1 ∷ rest 1 ∷ release 1 0 ∷ []) (deliver 0) (start 1) (owes (37 ∷ 0 ∷ []))
    ∷ []
