-- The first piece by the outcome of the script's first line.
use mathlib.Core.Path.{◌≡◌, refl, sym, ap, subst, ◌∙◌}
use mathlib.Core.Bool.{true}
use mathlib.Core.List.{List, ◌++◌}
use Prim.Native.Nat.{ℕ, ◌≤◌, ◌<◌}
use native.Mathlib.Omega.{arith}
use lib.ListN.{length}
use borrow.Author.Tests.{le-leb, lt-leb}
use Rattle.std.specs.Prelude.{Result, Ok, Err}
use Rattle.refusals.specs.Numbers.{number, number_of}
use Rattle.refusals.specs.declared.Refusal.{Refusal}
use Rattle.refusals.specs.declared.Refusal.TheVariants.{ScriptTooLong, BoardLine as WrongPlace}
use Rattle.refusals.proofs.NumberLaws.{refused_above_zero}
use Rattle.rules.specs.Sound.{Sound, sound}
use Rattle.rules.specs.Opening.{opening_checks, fresh, blank_board, opening, refused_by}
use Rattle.rules.specs.Finished.{verdict}
use Rattle.rules.proofs.FactLaws.{judge_passed}
use Rattle.rules.proofs.SoundLaws.{sound_tested}
use Rattle.rules.proofs.JudgeLaws.{Judged, passed, failed, judged}
use Rattle.rules.proofs.FreshSound.{opening_fresh, blank_unsound}
use Rattle.rules.proofs.Theorem.{opening_sound}
use Rattle.rules.specs.declared.Outcome.{Outcome}
use Rattle.fields.specs.Fields.{up_to}
use Rattle.script.specs.Lines.{reading, parents_of}
use Rattle.script.specs.declared.Line.{Line as ScriptLine}
use Rattle.script.specs.declared.Line.TheVariants.{Opens, Asks}
use Rattle.texts.specs.Texts.{heading, board_text, refused_text}
use Rattle.listing.specs.Scripts.{first_outcome, script_checks, start_outcome}
use Rattle.listing.specs.Parts.{opened_piece, first_piece}
use Rattle.listing.specs.Turns.{start_place}
use Rattle.listing.specs.declared.Cursor.{Cursor}
use Rattle.listing.specs.declared.Cursor.TheVariants.{Behind}

pub ok_not_err : {A : Type 0} {x : A} {k : Refusal} → ◌≡◌ {A = Result A Refusal} (Ok x) (Err k) → ⊥
ok_not_err e = cc

-- an answer of number 0 is an accepted one
pub accepted_is : (r : Result (Unit {0}) Refusal) → number_of r ≡ 0 → r ≡ Ok tt
accepted_is (Ok _) e = refl
accepted_is (Err k) e = absurd (refused_above_zero k e)

-- ---- what is known of the outcome of a first line
-- the board is a fresh one, or blank with a refusal
pub data Started (s : List ℕ) (o : Outcome) : Type 0 where
  opened : length s ≤ 65535 → o.answer ≡ Ok tt → Sound o.board → o.board.debt ≡ 0 → Started s o
  refused : (k : Refusal) → o ≡ refused_by k → Started s o

-- of an opening, short or not
opening_starts : (s : List ℕ) (m d : ℕ) (ps : List ℕ) → length s ≤ 65535 → Started s (opening m d ps)
unfolding opening
opening_starts s m d ps l = by_checks (judged refused_by (opening_checks m d ps) fresh_outcome)
  where
    fresh_outcome : Outcome
    fresh_outcome = record { answer = Ok tt; board = fresh m d ps }

    by_checks : Judged refused_by (opening_checks m d ps) fresh_outcome → Started s (opening m d ps)
    by_checks (passed c) =
        let e : (opening m d ps).answer ≡ Ok tt = ap (λ (o : Outcome). o.answer) (opening_fresh m d ps c) in
        let sound_and_paid = opening_sound m d ps (ap number_of e) in
        opened l e sound_and_paid.0 sound_and_paid.1
    by_checks (failed k q) = refused k q

first_starts : (s ps : List ℕ) (x : Result ScriptLine Refusal) → length s ≤ 65535 → Started s (first_outcome ps x)
first_starts s ps (Ok (Opens m d n)) l = opening_starts s m d ps l
first_starts s ps (Ok (Asks r)) l = refused WrongPlace refl
first_starts s ps (Err k) l = refused k refl

pub script_starts : (s : List ℕ) → Started s (start_outcome s)
unfolding start_outcome
script_starts s = by_checks (judged refused_by (script_checks s) first)
  where
    first : Outcome
    first = first_outcome (parents_of (up_to 10 s)) (reading true (up_to 10 s))

    by_checks : Judged refused_by (script_checks s) first → Started s (start_outcome s)
    by_checks (passed c) =
        subst (Started s) (sym (judge_passed refused_by (script_checks s) first c)) (first_starts s (parents_of (up_to 10 s)) (reading true (up_to 10 s)) c.0)
    by_checks (failed k q) = refused k q

-- a script whose board line is accepted is not too long
pub start_short : (s : List ℕ) → (start_outcome s).answer ≡ Ok tt → length s ≤ 65535
start_short s e = by_start (script_starts s)
  where
    by_start : Started s (start_outcome s) → length s ≤ 65535
    by_start (opened l q h d) = l
    by_start (refused k q) = absurd (ok_not_err (sym e ∙ ap (λ (o : Outcome). o.answer) q))

-- the three cases of the outcome
module _ (s : List ℕ) where
  pub start_long : 65535 < length s → start_outcome s ≡ refused_by ScriptTooLong
  unfolding start_outcome
  start_long l = rw (lt-leb (length s) 65535 l)

  pub start_empty : length s ≤ 65535 → length s < 1 → start_outcome s ≡ refused_by WrongPlace
  unfolding start_outcome
  start_empty l m = rw (le-leb (length s) 65535 l, lt-leb 1 (length s) m)

  pub start_first : length s ≤ 65535 → 1 ≤ length s → start_outcome s ≡ first_outcome (parents_of (up_to 10 s)) (reading true (up_to 10 s))
  unfolding start_outcome
  start_first l m = rw (le-leb (length s) 65535 l, le-leb 1 (length s) m)

-- ---- the first piece
-- a blank board is not sound, so a refused line is its line
blank_text : (k : Refusal) → board_text 0 (number k) blank_board ≡ refused_text k
unfolding blank_board verdict
blank_text k = rw blank_unsound

-- the text of the first piece, and the cursor behind it, whether its line was refused or not
pub first_text : (s : List ℕ) (o : Outcome) → Started s o → (opened_piece s o).text ≡ heading ++ board_text 0 (number_of o.answer) o.board
first_text s o (opened l e h d) = rw e
first_text s o (refused k e) = rw e (ap (λ (x : List ℕ). heading ++ x) (sym (blank_text k)))

abbrev pub start_cursor : List ℕ → Outcome → Cursor
start_cursor s o = Behind (record { at = start_place s o.answer; line = 1; board = o.board })

pub first_next : (s : List ℕ) (o : Outcome) → Started s o → (opened_piece s o).next ≡ start_cursor s o
first_next s o (opened l e h d) = rw e
first_next s o (refused k e) = rw e

-- the same of the script itself
pub start_text : (s : List ℕ) → (first_piece s).text ≡ heading ++ board_text 0 (number_of (start_outcome s).answer) (start_outcome s).board
unfolding first_piece
start_text s = first_text s (start_outcome s) (script_starts s)

pub start_next : (s : List ℕ) → (first_piece s).next ≡ start_cursor s (start_outcome s)
unfolding first_piece
start_next s = first_next s (start_outcome s) (script_starts s)

-- where a line is left behind the first, the board is sound
pub start_sound : (s : List ℕ) (o : Outcome) → Started s o → start_place s o.answer < length s → Sound o.board
start_sound s o (opened l e h d) m = h
start_sound s o (refused k e) m = absurd (let p = rw e at m in omega arith)

-- the same of the script itself, as the calls that go on from there ask for it
pub start_asked : (s : List ℕ) {o : Outcome} → o ≡ start_outcome s → {at : ℕ} → at ≡ start_place s o.answer → at < length s → sound o.board ≡ true
start_asked s {o} is place m = sound_tested o.board (start_sound s o (subst (Started s) (sym is) (script_starts s)) (omega (arith, place, m)))
