-- A beginning on a sound board and on another, and what it promises.
use mathlib.Core.Path.{◌≡◌, sym, ap, subst, ◌∙◌}
use mathlib.Core.Bool.{true, false}
use mathlib.Core.List.{[], ◌∷◌}
use Rattle.refusals.specs.declared.Refusal.TheVariants.{NotSound}
use Rattle.std.specs.Prelude.{Ok, Err}
use Rattle.rules.specs.Events.{after_all}
use Rattle.rules.specs.Rounds.{begun}
use Rattle.rules.specs.Boards.{view, board_of}
use Rattle.rules.specs.Sound.{sound}
use Rattle.rules.specs.Visits.{begin}
use Rattle.rules.specs.Lists.{begins}
use Rattle.rules.specs.Guarantee.{Carries}
use Rattle.rules.specs.declared.Rounds.{Rounds}
use Rattle.rules.specs.declared.Board.{Board}
use Rattle.rules.specs.declared.Outcome.{Outcome}
use Rattle.rules.proofs.SoundLaws.{sound_claims}
use Rattle.rules.proofs.Theorem.{carries}
use Rattle.rules.proofs.Views.{begin_sound}

-- its one check fails
pub begin_refused : (b : Board) → sound b ≡ false → record { answer = Err NotSound; board = b } ≡ begin b
unfolding begin
begin_refused b e = rw e

-- it holds: the sheet stays, and the rounds are those of round one
pub begin_opened : (b : Board) (k : Rounds) → sound b ≡ true → k ≡ begun → record { answer = Ok tt; board = board_of (view b) k } ≡ begin b
begin_opened b k e q = ap (λ (x : Rounds). record { answer = Ok tt; board = board_of (view b) x }) q ∙ sym (begin_sound b (sound_claims b e))

-- the contract, from the outcome alone: a beginning is a list of one event
pub begin_meets : (b : Board) (o : Outcome) → o ≡ begin b → (o ≡ begin b) × Carries b (begins ∷ []) o.board
unfolding after_all
begin_meets b o e = (e, subst (λ (p : Outcome). Carries b (begins ∷ []) p.board) (sym e) (carries b (begins ∷ [])))
