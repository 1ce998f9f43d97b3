-- Independent steps do the same in either order, and a list is tidied by exchanging such neighbours.
use mathlib.Core.Path.{◌≡◌, refl, sym, ap, ◌∙◌}
use mathlib.Core.Bool.{Bool}
use mathlib.Core.List.{List, [], ◌∷◌, ◌++◌}
use Prim.Native.Nat.{ℕ}
use Rattle.refusals.proofs.NumberLaws.{accepted_is}
use Rattle.refusals.specs.Numbers.{number_of}
use Rattle.rules.specs.Actions.{action_of}
use Rattle.rules.specs.Events.{Events, after_all, all_answers}
use Rattle.rules.specs.Boards.{view, board_of}
use Rattle.rules.specs.Sound.{Sound}
use Rattle.rules.specs.Steps.{rounds_kept, step}
use Rattle.rules.specs.Lists.{steps, takes, events}
use Rattle.rules.specs.Sheets.Sheet.{Sheet}
use Rattle.rules.specs.Sheets.Steps.{step as sheet_step}
use Rattle.rules.specs.Sheets.Touching.{Spot, touched_by, touched, among}
use Rattle.rules.specs.Orders.{DebtKept, Independent, IndependentCommute, MovesTouchUnit, NeighboursOf, as_it_was, exchange, TidyingOf, Neighbours, Tidying}
use Rattle.rules.proofs.Views.{step_shown, accepted_sound}
use Rattle.rules.proofs.EventSound.{answer_shown, other_leaves, step_keeps_sound}
use Rattle.rules.proofs.Projection.{step_view}
use Rattle.rules.proofs.Sheets.SpotLaws.{apart_tells, apart_of, EntryOf, entry_at, Ground, ground_of, whole_sheet}
use Rattle.rules.proofs.Sheets.ReachLaws.{touches_same}
use Rattle.rules.proofs.Sheets.TouchLaws as of-sheets
use Rattle.rules.proofs.OrderLaws.{Calm, Agrees, Follows, Local, calm_alone, calm_then, same_end}
use Rattle.rules.specs.Records.{Rounds, Board, StepRecord, Outcome}

-- ---- a board: what stands at no spot of its sheet, and its rounds
record BoardGround : Type 0 where
  sheet : Ground
  rounds : Rounds

abbrev ground_on : Board → BoardGround
ground_on b = record { sheet = ground_of (view b); rounds = b.rounds }

abbrev entry_on : Board → (p : Spot) → EntryOf p
entry_on b p = entry_at (view b) p

abbrev touches : Board → StepRecord → Spot → Bool
touches b r p = among p (touched (view b) r)

abbrev CalmStep : Board → StepRecord → Type 0
CalmStep b r = Calm steps ground_on entry_on touches b r

-- the rounds that a step leaves
rounds_shown : (b : Board) (r : StepRecord) → Sound b → (step b r).board.rounds ≡ rounds_kept (sheet_step (view b) r).answer (action_of r.kind) b.rounds
rounds_shown b r h = ap (λ (o : Outcome). o.board.rounds) (step_shown b r h)

-- a step does on a board what it does on one that is the same where it touches: by their sheets, and both drop the rounds or neither
step_follows : (b c : Board) (r : StepRecord) → Sound b → Sound c → CalmStep b r → Agrees steps ground_on entry_on touches b c r → Follows steps ground_on entry_on touches b c r
step_follows b c r h k calm same = record {
  accepted = answer_shown c r k ∙ there;
  grounds = λ i. record { sheet = sheets i; rounds = (rounds_shown c r k ∙ (λ j. rounds_kept ((accepted_is (sheet_step (view c) r).answer there ∙ sym (accepted_is (sheet_step (view b) r).answer z)) j) (action_of r.kind) (same.grounds j).rounds) ∙ sym (rounds_shown b r h)) i };
  entries = λ p e.
      ap (λ (x : Sheet). entry_at x p) (step_view c r k) ∙ of-sheets.repeats_entry (view b) r h.sheet z (view c) k.sheet ground same.entries p e
      ∙ sym (ap (λ (x : Sheet). entry_at x p) (step_view b r h));
}
  where
    z : number_of (sheet_step (view b) r).answer ≡ 0
    z = sym (answer_shown b r h) ∙ calm.0

    ground : ground_of (view c) ≡ ground_of (view b)
    ground = ap (λ (g : BoardGround). g.sheet) same.grounds

    there : number_of (sheet_step (view c) r).answer ≡ 0
    there = of-sheets.repeats_accepted (view b) r h.sheet z (view c) k.sheet ground same.entries

    sheets : ground_of (view (step c r).board) ≡ ground_of (view (step b r).board)
    sheets = ap ground_of (step_view c r k) ∙ of-sheets.repeats_ground (view b) r h.sheet z (view c) k.sheet ground same.entries ∙ sym (ap ground_of (step_view b r h))

-- so the argument over places is about steps
steps_local : Local steps ground_on entry_on touches Sound
steps_local = record {
  keeps = step_keeps_sound;
  writes = λ b r h calm p e. ap (λ (x : Sheet). entry_at x p) (step_view b r h) ∙ of-sheets.step_writes (view b) r h.sheet (sym (answer_shown b r h) ∙ calm.0) p e;
  touches_same = λ b c r same p. ap (among p) (touches_same (view b) (view c) r same.entries);
  reads = step_follows;
  whole = λ b c h k g same i. board_of (whole_sheet (view b) (view c) h.sheet k.sheet (ap (λ (x : BoardGround). x.sheet) g) same i) (g i).rounds;
}

-- an accepted step that leaves the debt leaves the ground, and the other way
calm_step : (b : Board) (r : StepRecord) → DebtKept b r → CalmStep b r
calm_step b r kept = (
  kept.accepted,
  λ i. record {
    sheet = (ap ground_of (step_view b r h) ∙ of-sheets.ground_left (view b) r h.sheet z d) i;
    rounds = (rounds_shown b r h ∙ other_leaves r (sheet_step (view b) r).answer b.rounds (of-sheets.no_start (view b) r h.sheet z d)) i;
  },
)
  where
    h : Sound b
    h = accepted_sound b r kept.accepted

    z : number_of (sheet_step (view b) r).answer ≡ 0
    z = sym (answer_shown b r h) ∙ kept.accepted

    d : (sheet_step (view b) r).sheet.debt ≡ b.debt
    d = sym (ap (λ (x : Sheet). x.debt) (step_view b r h)) ∙ kept.debt

debt_kept : (b : Board) (r : StepRecord) → CalmStep b r → DebtKept b r
debt_kept b r calm = record { accepted = calm.0; debt = ap (λ (g : BoardGround). g.sheet.debt) calm.1 }

pub independent_commute : IndependentCommute
unfolding IndependentCommute after_all
independent_commute b q r i =
    let h : Sound b = accepted_sound b q i.first.accepted in
    let first : CalmStep b q = calm_step b q i.first in
    let second : CalmStep (step b q).board r = calm_step (step b q).board r i.second in
    let separate = apart_tells (touched (view b) q) (touched (view b) r) i.nothing_shared in (
      record {
        nothing_shared = apart_of (touched (view b) r) (touched (view b) q) (λ p e f. separate p f e);
        first = debt_kept b r (calm_alone steps ground_on entry_on touches Sound steps_local b q r h first second separate);
        second = debt_kept (step b r).board q (calm_then steps ground_on entry_on touches Sound steps_local b q r h first second separate);
      },
      same_end steps ground_on entry_on touches Sound steps_local b q r h first second separate,
    )

pub moves_touch_unit : MovesTouchUnit
unfolding MovesTouchUnit
moves_touch_unit b r m = ap (touched_by (view b) r) m

-- ---- lists of events, of which steps are some
module _ {E : Type 0} (ev : Events Board E) (taken : StepRecord → E) (next_is : (b : Board) (r : StepRecord) → ev.next b (taken r) ≡ (step b r).board)
    (answer_is : (b : Board) (r : StepRecord) → ev.answer b (taken r) ≡ number_of (step b r).answer) where
  -- two steps at the head of a list: the board that they leave, and their answers
  two_after : (b : Board) (q r : StepRecord) → ev.next (ev.next b (taken q)) (taken r) ≡ (step (step b q).board r).board
  two_after b q r = ap (λ (c : Board). ev.next c (taken r)) (next_is b q) ∙ next_is (step b q).board r

  two_answers : (b : Board) (q r : StepRecord) → Independent b q r → (behind : List E)
      → all_answers ev b (taken q ∷ taken r ∷ behind) ≡ 0 ∷ 0 ∷ all_answers ev (step (step b q).board r).board behind
  unfolding all_answers
  two_answers b q r i behind = λ k.
      (answer_is b q ∙ i.first.accepted) k
      ∷ (ap (λ (c : Board). ev.answer c (taken r)) (next_is b q) ∙ answer_is (step b q).board r ∙ i.second.accepted) k
      ∷ all_answers ev (two_after b q r k) behind

  -- the events before the two are taken in both lists
  neighbours_of : NeighboursOf ev taken
  unfolding IndependentCommute after_all all_answers
  neighbours_of b [] q r behind i =
      let other = independent_commute b q r i in
      record {
        board = ap (λ (c : Board). after_all ev c behind) (two_after b q r ∙ sym other.1 ∙ sym (two_after b r q));
        answers = two_answers b q r i behind ∙ ap (λ (c : Board). 0 ∷ 0 ∷ all_answers ev c behind) (sym other.1) ∙ sym (two_answers b r q other.0 behind);
      }
  neighbours_of b (e ∷ before) q r behind i =
      let rest = neighbours_of (ev.next b e) before q r behind i in record { board = rest.board; answers = ap (λ (ks : List ℕ). ev.answer b e ∷ ks) rest.answers }

  tidying_of : TidyingOf ev taken
  tidying_of b _ _ (as_it_was es) = record { board = refl; answers = refl }
  tidying_of b _ _ (exchange before q r behind fs i more) =
      let first = neighbours_of b before q r behind i in
      let rest = tidying_of b (before ++ taken r ∷ taken q ∷ behind) fs more in record { board = first.board ∙ rest.board; answers = first.answers ∙ rest.answers }

pub neighbours : Neighbours
unfolding Neighbours
neighbours = (neighbours_of steps (λ r. r) (λ b r. refl) (λ b r. refl), neighbours_of events takes (λ b r. refl) (λ b r. refl))

pub tidying : Tidying
unfolding Tidying
tidying = (tidying_of steps (λ r. r) (λ b r. refl) (λ b r. refl), tidying_of events takes (λ b r. refl) (λ b r. refl))
