-- The guarantee: one claim about every accepted opening and every list of steps, beginnings and visits, in whatever order.
use Rattle.std.specs.Prelude.{◌≡◌, List, ◌++◌, ◌↔◌, ℕ, ◌+◌, ◌*◌, ◌≤◌, ◌<◌, ◌^◌, length, set, Result, Ok}
use Rattle.refusals.specs.declared.Refusal.{Refusal}
use Rattle.refusals.specs.Numbers.{number_of}
use Rattle.rules.specs.Records.{grant, Move, Board, StepRecord, Verdict, Finished}
use Rattle.rules.specs.Actions.{action_of}
use Rattle.rules.specs.Events.{Events, after_all, tally_all, DrainStepOf, DrainOf}
use Rattle.rules.specs.Sheets.Sheet.{Sheet, parent_at}
use Rattle.rules.specs.Sheets.Sound.{Sound as SoundSheet, weight_out}
use Rattle.rules.specs.Sheets.Steps.{changed}
use Rattle.rules.specs.Sheets.Lists.{steps as sheet_steps, start_count, undrained_count, grant_count, taken_count}
use Rattle.rules.specs.Sheets.Finished.{verdict as sheet_verdict, Complete}
use Rattle.rules.specs.Sheets.Drains.{Quiet as QuietSheet, Way, There, way_step, waiting_units, drain_bound, shallow_returns}
use Rattle.rules.specs.Boards.{view, board_of}
use Rattle.rules.specs.Sound.{Sound}
use Rattle.rules.specs.Opening.{opening}
use Rattle.rules.specs.Steps.{step}
use Rattle.rules.specs.Lists.{steps, Event, events, count_by}
use Rattle.rules.specs.Finished.{verdict}
use Rattle.rules.specs.Drains.{Quiet, Drain}

-- a step record that can be handed over: its fields have 16 bits
pub record Fits16 (r : StepRecord) : Type 0 where
  pub kind : r.kind < 2 ^ 16
  pub unit : r.unit < 2 ^ 16
  pub other : r.other < 2 ^ 16
  pub slot : r.slot < 2 ^ 16

-- ---- states that show a sheet: which of them are sound, how they take steps, and what finished tells of them
pub record Model (S : Type 0) : Type 1 where
  pub shows : S → Sheet
  pub Good : S → Type 0
  pub takes : Events S StepRecord
  pub told : S → Result Verdict Refusal

abbrev pub sheets : Model Sheet
sheets = record { shows = λ b. b; Good = SoundSheet; takes = sheet_steps; told = sheet_verdict }

abbrev pub boards : Model Board
boards = record { shows = view; Good = Sound; takes = steps; told = verdict }

-- a way to make a drain that has led to b one longer, that it is there, and that its step does
pub record Longer {S : Type 0} (M : Model S) (b : S) : Type 0 where
  pub way : Way
  pub there : There (M.shows b) way
  pub fits : Fits16 (way_step (M.shows b) way)
  pub is_step : DrainStepOf M.takes (λ c. undrained_count (M.shows c)) b (way_step (M.shows b) way)

-- every drain from b is bounded, and until finished some step makes it one longer
pub record DrainsEnd {S : Type 0} (M : Model S) (b : S) : Type 0 where
  pub bounded : (rs : List StepRecord) → DrainOf M.takes (λ c. undrained_count (M.shows c)) b rs → length rs ≤ drain_bound (M.shows b)
  pub unstuck : (rs : List StepRecord) → DrainOf M.takes (λ c. undrained_count (M.shows c)) b rs → (M.told (after_all M.takes b rs) ≡ Ok Finished → ⊥) → Longer M (after_all M.takes b rs)

-- ---- over events of any kind, with what each counts for: starts, granted requests, and what unit 0 takes back
pub record History (S E : Type 0) : Type 0 where
  pub starts : S → E → ℕ
  pub grants : S → E → ℕ
  pub taken : S → E → ℕ

-- what holds of the state b that the list es left, where es began on the state f
pub record GuaranteedOf {S E : Type 0} (M : Model S) (ev : Events S E) (h : History S E) (f : S) (es : List E) (b : S) : Type 0 where
  -- the board is sound
  pub is_sound : M.Good b
  -- weight is conserved: what is in units and slots is the debt
  pub conserved : weight_out (M.shows b) ≡ (M.shows b).debt
  -- the debt and what unit 0 took back are what starts and grants brought in
  pub accounted : (M.shows b).debt + tally_all ev h.taken f es ≡ grant * (tally_all ev h.starts f es + tally_all ev h.grants f es)
  -- finished is said exactly when every unit is idle and every slot empty
  pub finished : (M.told b ≡ Ok Finished) ↔ Complete (M.shows b)
  -- with no unit active and no work under way, drains are bounded and never stuck
  pub drains_end : QuietSheet (M.shows b) → DrainsEnd M b

-- ---- over boards: for every accepted opening and every list of events
unfoldable pub GuaranteeOf : {E : Type 0} → Events Board E → History Board E → Type 0
GuaranteeOf {E} ev h = (m d : ℕ) (ps : List ℕ) (es : List E) → number_of (opening m d ps).answer ≡ 0 → GuaranteedOf boards ev h (opening m d ps).board es (after_all ev (opening m d ps).board es)

-- the guarantee as a call carries it to its caller: of every accepted opening and list qs that led to b, where es then led to c
abbrev pub CarriesOf : {E : Type 0} → Events Board E → History Board E → Board → List E → Board → Type 0
CarriesOf {E} ev h b es c =
    (m d : ℕ) (ps : List ℕ) (qs : List E) → number_of (opening m d ps).answer ≡ 0 → b ≡ after_all ev (opening m d ps).board qs
    → GuaranteedOf boards ev h (opening m d ps).board (qs ++ es) c

-- ---- over steps, beginnings and visits: the guarantee
abbrev pub step_history : History Sheet StepRecord
step_history = record { starts = start_count; grants = grant_count; taken = taken_count }

abbrev pub event_history : History Board Event
event_history = record { starts = count_by start_count; grants = count_by grant_count; taken = count_by taken_count }

abbrev pub Guaranteed : Board → List Event → Board → Type 0
Guaranteed f es b = GuaranteedOf boards events event_history f es b

abbrev pub Guarantee : Type 0
Guarantee = GuaranteeOf events event_history

abbrev pub Carries : Board → List Event → Board → Type 0
Carries b es c = CarriesOf events event_history b es c

-- on a finished board that a list left, every step but a start or a move is refused
unfoldable pub FinishedRefuses : Type 0
FinishedRefuses =
    (m d : ℕ) (ps : List ℕ) (es : List Event) (r : StepRecord) → number_of (opening m d ps).answer ≡ 0
    → verdict (after_all events (opening m d ps).board es) ≡ Ok Finished → undrained_count (view (after_all events (opening m d ps).board es)) r ≡ 0
    → number_of (step (after_all events (opening m d ps).board es) r).answer ≡ 0 → ⊥

-- on a finished board that a list left, unit 0 took back all that starts and grants brought in
unfoldable pub FinishedAllBack : Type 0
FinishedAllBack =
    (m d : ℕ) (ps : List ℕ) (es : List Event) → number_of (opening m d ps).answer ≡ 0 → verdict (after_all events (opening m d ps).board es) ≡ Ok Finished
    → tally_all events event_history.taken (opening m d ps).board es
    ≡ grant * (tally_all events event_history.starts (opening m d ps).board es + tally_all events event_history.grants (opening m d ps).board es)

-- ---- moves (M-108)
-- the board with another parent for a unit
abbrev pub under_parent : Board → ℕ → ℕ → Board
under_parent b u p = board_of (changed (view b) (set b.parents u p) b.units b.slots b.debt b.created b.processed) b.rounds

-- an accepted move changes nothing else: returns under way go where they were sent, and the debt stays
unfoldable pub MovesChangeParent : Type 0
MovesChangeParent = (b : Board) (r : StepRecord) → action_of r.kind ≡ Move → number_of (step b r).answer ≡ 0 → (step b r).board ≡ under_parent b r.unit r.other

-- a move leaves what is told of a board, so a finished one finished
unfoldable pub MovesKeepVerdict : Type 0
MovesKeepVerdict = (b : Board) (r : StepRecord) → action_of r.kind ≡ Move → verdict (step b r).board ≡ verdict b

-- a move under the parent that the unit has
pub record MovesNowhere (b : Board) (r : StepRecord) : Type 0 where
  pub moves : action_of r.kind ≡ Move
  pub same_parent : r.other ≡ parent_at (view b) r.unit

-- no other accepted step leaves the board as it was, and that one does
unfoldable pub AcceptedChanges : Type 0
AcceptedChanges = (b : Board) (r : StepRecord) → number_of (step b r).answer ≡ 0 → ((step b r).board ≡ b) ↔ MovesNowhere b r

-- a waiting unit counts at least 1 less than the bound has for it, a return to a unit that is not among the deepest at least d + 2 less: so
-- many steps fewer has each drain, and with either on the board none attains the bound
unfoldable pub BelowBound : Type 0
BelowBound =
    (b : Board) → Sound b → Quiet b → (rs : List StepRecord) → Drain b rs
    → (length rs + (waiting_units (view b) + shallow_returns (view b) * (b.delay + 2)) ≤ drain_bound (view b)) × (1 ≤ waiting_units (view b) + shallow_returns (view b) → length rs < drain_bound (view b))
