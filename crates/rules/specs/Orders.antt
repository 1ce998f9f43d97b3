-- Two steps in either order (M-107), and the lists that come of such exchanges.
use Rattle.std.specs.Prelude.{◌≡◌, true, List, [], ◌∷◌, ◌++◌}
use Rattle.refusals.specs.Numbers.{number_of}
use Rattle.rules.specs.Events.{Events, after_all, all_answers}
use Rattle.rules.specs.Sheets.Touching.{the_unit, touched, apart}
use Rattle.rules.specs.Actions.{action_of}
use Rattle.rules.specs.Boards.{view}
use Rattle.rules.specs.Steps.{step}
use Rattle.rules.specs.Lists.{steps, after, takes, events}
use Rattle.rules.specs.Records.{Move, Board, StepRecord}

-- accepted, and the debt is as it was. (That b is sound need not be asked: a step on another board is refused.)
pub record DebtKept (b : Board) (r : StepRecord) : Type 0 where
  pub accepted : number_of (step b r).answer ≡ 0
  pub debt : (step b r).board.debt ≡ b.debt

-- independent: what q and r touch on b has nothing in common, and neither q on b nor then r on the board that q leaves is refused or changes the debt
pub record Independent (b : Board) (q r : StepRecord) : Type 0 where
  pub nothing_shared : apart (touched (view b) q) (touched (view b) r) ≡ true
  pub first : DebtKept b q
  pub second : DebtKept (step b q).board r

-- they are so in the other order too, and the boards after them are equal, with counts, marks and totals (M-105)
unfoldable pub IndependentCommute : Type 0
IndependentCommute = (b : Board) (q r : StepRecord) → Independent b q r → Independent b r q × (after b (r ∷ q ∷ []) ≡ after b (q ∷ r ∷ []))

-- a move touches its unit alone (M-108)
unfoldable pub MovesTouchUnit : Type 0
MovesTouchUnit = (b : Board) (r : StepRecord) → action_of r.kind ≡ Move → touched (view b) r ≡ the_unit r.unit ∷ []

-- ---- in lists of events, steps among them
-- two lists that leave the same board and answer the same, event for event
pub record Alike {E : Type 0} (ev : Events Board E) (b : Board) (es fs : List E) : Type 0 where
  pub board : after_all ev b es ≡ after_all ev b fs
  pub answers : all_answers ev b es ≡ all_answers ev b fs

-- two neighbours are exchanged that are independent on the board that the list has reached before them; both answer 0 in either order
abbrev pub NeighboursOf : {E : Type 0} → Events Board E → (StepRecord → E) → Type 0
NeighboursOf {E} ev taken =
    (b : Board) (before : List E) (q r : StepRecord) (behind : List E) → Independent (after_all ev b before) q r
    → Alike ev b (before ++ taken q ∷ taken r ∷ behind) (before ++ taken r ∷ taken q ∷ behind)

-- tidied: what comes of a list by any number of such exchanges, one after another
pub data TidiedOf {E : Type 0} (ev : Events Board E) (taken : StepRecord → E) (b : Board) : List E → List E → Type 0 where
  as_it_was : (es : List E) → TidiedOf ev taken b es es
  exchange : (before : List E) (q r : StepRecord) (behind fs : List E) → Independent (after_all ev b before) q r
      → TidiedOf ev taken b (before ++ taken r ∷ taken q ∷ behind) fs → TidiedOf ev taken b (before ++ taken q ∷ taken r ∷ behind) fs

abbrev pub TidyingOf : {E : Type 0} → Events Board E → (StepRecord → E) → Type 0
TidyingOf {E} ev taken = (b : Board) (es fs : List E) → TidiedOf ev taken b es fs → Alike ev b es fs

-- in lists of steps, and of steps, beginnings and visits
unfoldable pub Neighbours : Type 0
Neighbours = NeighboursOf steps (λ r. r) × NeighboursOf events takes

unfoldable pub Tidying : Type 0
Tidying = TidyingOf steps (λ r. r) × TidyingOf events takes
