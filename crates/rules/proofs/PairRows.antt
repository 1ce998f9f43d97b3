-- The worked pairs hold: computed, as the worked cases, without the test of soundness.
use mathlib.Core.Path.{◌≡◌, refl, sym, ap, subst, ◌∙◌}
use mathlib.Core.List.{List, [], ◌∷◌}
use mathlib.Core.Bool.{true}
use Prim.Native.Nat.{ℕ}
use lib.Dec.{eqb}
use borrow.Author.Tests.{eqb-false}
use Rattle.refusals.specs.Numbers.{number_of}
use Rattle.rules.specs.Facts.{Fact, equal, holds, fails, Claims, tests, Each, each, same_list}
use Rattle.rules.specs.Effects.{record_rule}
use Rattle.rules.specs.Sheets.Steps.{effect, applied, sound_step as sheet_sound_step}
use Rattle.rules.specs.Sheets.Touching.{touched, among, apart}
use Rattle.rules.specs.Boards.{view}
use Rattle.rules.specs.Sound.{Sound}
use Rattle.rules.specs.Opening.{lower_parents, fresh, blank_board, opening}
use Rattle.rules.specs.Steps.{sound_step, step}
use Rattle.rules.specs.Events.{after_all, all_answers}
use Rattle.rules.specs.Lists.{answers}
use Rattle.rules.specs.Orders.{DebtKept, Independent}
use Rattle.rules.specs.PairCases.{Shows, free, crosses, meets, owes, Pair, pair_opened, named_spots, ShownBy, AllShown, pairs}
use Rattle.rules.proofs.FactLaws.{same_is, claims, each_claims}
use Rattle.rules.proofs.Views.{step_sound}
use Rattle.rules.proofs.EventSound.{step_keeps_sound}
use Rattle.rules.proofs.Projection.{list_keeps_sound}
use Rattle.rules.proofs.Theorem.{opening_sound}
use Rattle.rules.proofs.CaseRows.{quick_after, quick_answers, quick_after_lem, quick_answers_lem}
use Rattle.rules.specs.Records.{Board, StepRecord, Outcome}

-- ---- tests that compute, and what they show
kept_row : Board → StepRecord → List Fact
kept_row b r = equal (number_of (sound_step b r).answer) 0 ∷ equal (sound_step b r).board.debt b.debt ∷ []

kept_right : (b : Board) (r : StepRecord) → Sound b → tests (kept_row b r) ≡ true → DebtKept b r
unfolding kept_row
kept_right b r h e =
    let c = claims (kept_row b r) e in
    record { accepted = ap (λ (o : Outcome). number_of o.answer) (step_sound b r h) ∙ c.0; debt = ap (λ (o : Outcome). o.board.debt) (step_sound b r h) ∙ c.1.0 }

then_kept : (b : Board) (q r : StepRecord) → Sound b → tests (kept_row (sound_step b q).board r) ≡ true → DebtKept (step b q).board r
then_kept b q r h e =
    let first : step b q ≡ sound_step b q = step_sound b q h in
    subst (λ (o : Outcome). DebtKept o.board r) (sym first) (kept_right (sound_step b q).board r (subst (λ (o : Outcome). Sound o.board) first (step_keeps_sound b q h)) e)

answers_right : (b : Board) (rs : List StepRecord) (ks : List ℕ) → Sound b → same_list (quick_answers b rs) ks ≡ true → answers b rs ≡ ks
answers_right b rs ks h e = quick_answers_lem b rs h ∙ same_is (quick_answers b rs) ks e

free_row : Board → StepRecord → StepRecord → List Fact
free_row b q r = holds (apart (touched (view b) q) (touched (view b) r)) ∷ holds (tests (kept_row b q)) ∷ holds (tests (kept_row (sound_step b q).board r)) ∷ []

free_right : (b : Board) (q r : StepRecord) → Sound b → Claims (free_row b q r) → Independent b q r
unfolding free_row
free_right b q r h c = record { nothing_shared = c.0; first = kept_right b q h c.1.0; second = then_kept b q r h c.1.1.0 }

shows_row : Board → StepRecord → StepRecord → Shows → List Fact
shows_row b q r free = free_row b q r
shows_row b q r crosses = fails (apart (named_spots q) (named_spots r)) ∷ free_row b q r
shows_row b q r (meets x ks) =
    holds (among x (touched (view b) q))
    ∷ holds (among x (touched (view b) r))
    ∷ holds (tests (kept_row b q))
    ∷ holds (tests (kept_row (sound_step b q).board r))
    ∷ holds (same_list (quick_answers b (r ∷ q ∷ [])) ks)
    ∷ []
shows_row b q r (owes ks) =
    holds (apart (touched (view b) q) (touched (view b) r))
    ∷ holds (same_list (quick_answers b (q ∷ r ∷ [])) (0 ∷ 0 ∷ []))
    ∷ fails (eqb (sound_step b q).board.debt b.debt)
    ∷ holds (same_list (quick_answers b (r ∷ q ∷ [])) ks)
    ∷ []

shows_right : (b : Board) (q r : StepRecord) (x : Shows) → Sound b → Claims (shows_row b q r x) → ShownBy b q r x
unfolding shows_row
shows_right b q r free h c = free_right b q r h c
shows_right b q r crosses h c = (free_right b q r h c.1, c.0)
shows_right b q r (meets x ks) h c = (c.0, c.1.0, kept_right b q h c.1.1.0, then_kept b q r h c.1.1.1.0, answers_right b (r ∷ q ∷ []) ks h c.1.1.1.1.0)
shows_right b q r (owes ks) h c = (
  c.0,
  answers_right b (q ∷ r ∷ []) (0 ∷ 0 ∷ []) h c.1.0,
  λ e. eqb-false (sound_step b q).board.debt b.debt c.1.1.0 (sym (ap (λ (o : Outcome). o.board.debt) (step_sound b q h)) ∙ e),
  answers_right b (r ∷ q ∷ []) ks h c.1.1.1.0,
)

pair_row : Pair → List Fact
pair_row p = equal (number_of (pair_opened p).answer) 0 ∷ shows_row (quick_after (pair_opened p).board p.before) p.one p.two p.shows

pairs_right : (ps : List Pair) → Each (λ i p. pair_row p) ps → AllShown ps
unfolding Each pair_row
pairs_right [] c = tt
pairs_right (p ∷ ps) c =
    let f : Board = (pair_opened p).board in
    let h : Sound f = (opening_sound p.slots p.delay p.parents c.0.0).0 in
    let quick = quick_after_lem f p.before h in (
      c.0.0,
      subst (λ (b : Board). ShownBy b p.one p.two p.shows) (sym quick) (shows_right (quick_after f p.before) p.one p.two p.shows (subst Sound quick (list_keeps_sound f p.before h)) c.0.1),
      pairs_right ps c.1,
    )

-- one computed test over the whole table
pub pair_cases : AllShown pairs
unfolding pairs pair_row shows_row free_row kept_row same_list each lower_parents opening fresh blank_board record_rule effect applied sheet_sound_step sound_step after_all all_answers
pair_cases = pairs_right pairs (each_claims (λ i p. pair_row p) pairs refl)
