-- The guarantee of a listing holds: each of its boards is the one that the steps of the script lines so far left, from the opening of the first line on; and what a script leaves is the board of the last line.
use mathlib.Core.Path.{◌≡◌, refl, sym, ap, subst, ◌∙◌}
use mathlib.Core.Bool.{true, false}
use mathlib.Core.List.{List, [], ◌∷◌, ◌++◌, append_assoc, append-nil}
use Prim.Native.Nat.{ℕ, suc, ◌-◌}
use native.Mathlib.Numerals.{add-one}
use native.Mathlib.Omega.{arith}
use lib.ListN.{length, take, get_or, length-append}
use lib.Seq.{take-append-add}
use Rattle.std.specs.Prelude.{Result, Ok, Err}
use Rattle.refusals.specs.Numbers.{number_of}
use Rattle.refusals.specs.declared.Refusal.{Refusal}
use Rattle.rules.specs.Events.{after_all}
use Rattle.rules.specs.Lists.{steps, after, taking}
use Rattle.rules.specs.Finished.{verdict}
use Rattle.rules.specs.Guarantee.{Guaranteed}
use Rattle.rules.proofs.SoundLaws.{below_or_not}
use Rattle.rules.proofs.EventLaws.{after_append}
use Rattle.rules.proofs.Theorem.{steps_guaranteed}
use Rattle.rules.specs.declared.Board.{Board}
use Rattle.rules.specs.declared.StepRecord.{StepRecord}
use Rattle.rules.specs.declared.Outcome.{Outcome}
use Rattle.rules.specs.declared.Verdict.{Verdict}
use Rattle.rules.specs.declared.Verdict.TheVariants.{Working, Finished}
use Rattle.fields.specs.Fields.{up_to}
use Rattle.script.specs.Lines.{reading, parents_of, step_by}
use Rattle.script.specs.declared.Line.{Line as ScriptLine}
use Rattle.script.specs.declared.Line.TheVariants.{Opens, Asks}
use Rattle.texts.specs.Texts.{heading, finished_word, state_word}
use Rattle.listing.specs.Scripts.{first_outcome, step_outcome, later_outcome, start_outcome, Line, text_by, later_lines, listing}
use Rattle.listing.specs.Listed.{OpenedBy, asked_by, steps_asked, Says, AllSay, later_of, lines_listed, ListingGuarantee}
use Rattle.listing.specs.Endings.{board_after, end_outcome, EndsAsListed}
use Rattle.listing.proofs.StartLaws.{ok_not_err, accepted_is, start_short, start_empty, start_first}

-- ---- the word finished stands for the verdict finished alone
word_finished : (v : Result Verdict Refusal) → state_word v ≡ finished_word → v ≡ Ok Finished
word_finished (Ok Working) e = cc
word_finished (Ok Finished) e = refl
word_finished (Err k) e = cc

-- ---- an accepted first line was read as a board line: every other is refused by a number
opened_by : (s : List ℕ) → (start_outcome s).answer ≡ Ok tt → OpenedBy s
opened_by s e =
    let short = start_short s e in
    below_or_not (length s) 1 (λ p. absurd (ok_not_err (sym e ∙ ap (λ (o : Outcome). o.answer) (start_empty s short p))))
    (λ p. by_reading (reading true (up_to 10 s)) refl (start_first s short p))
  where
    by_reading : (x : Result ScriptLine Refusal) → reading true (up_to 10 s) ≡ x → start_outcome s ≡ first_outcome (parents_of (up_to 10 s)) x → OpenedBy s
    by_reading (Ok (Opens m d n)) is q = record { m = m; d = d; count = n; reads = is; opens = q }
    by_reading (Ok (Asks r)) is q = absurd (ok_not_err (sym e ∙ ap (λ (o : Outcome). o.answer) q))
    by_reading (Err k) is q = absurd (ok_not_err (sym e ∙ ap (λ (o : Outcome). o.answer) q))

-- so the guarantee holds of every list of steps from its board on
opened_guaranteed : (s : List ℕ) → (start_outcome s).answer ≡ Ok tt → OpenedBy s → (rs : List StepRecord) → Guaranteed (start_outcome s).board (taking rs) (after (start_outcome s).board rs)
opened_guaranteed s e o rs =
    subst (λ (x : Outcome). Guaranteed x.board (taking rs) (after x.board rs)) (sym o.opens)
    (steps_guaranteed o.m o.d (parents_of (up_to 10 s)) rs (ap number_of (sym (ap (λ (x : Outcome). x.answer) o.opens) ∙ e)))

-- ---- the board after script lines is the one that their steps left
line_after : (b : Board) (x : Result StepRecord Refusal) → (step_outcome b x).board ≡ after b (asked_by x)
unfolding after_all
line_after b (Ok r) = refl
line_after b (Err k) = refl

steps_append : (ks ls : List (List ℕ)) → steps_asked (ks ++ ls) ≡ steps_asked ks ++ steps_asked ls
unfolding steps_asked
steps_append [] ls = refl
steps_append (k ∷ ks) ls = ap (λ (rs : List StepRecord). asked_by (step_by (reading false k)) ++ rs) (steps_append ks ls) ∙ sym (append_assoc (asked_by (step_by (reading false k))) (steps_asked ks) (steps_asked ls))

one_line_more : (f : Board) (ks : List (List ℕ)) (l : List ℕ) → (later_outcome (after f (steps_asked ks)) l).board ≡ after f (steps_asked (ks ++ l ∷ []))
unfolding steps_asked
one_line_more f ks l =
    let rs : List StepRecord = asked_by (step_by (reading false l)) in
    line_after (after f (steps_asked ks)) (step_by (reading false l))
    ∙ sym (after_append steps f (steps_asked ks) rs)
    ∙ ap (λ (qs : List StepRecord). after f (steps_asked ks ++ qs)) (sym (append-nil rs))
    ∙ ap (after f) (sym (steps_append ks (l ∷ [])))

-- ---- every line says it, where the guarantee holds of every list of steps from the board f on
module _ (f : Board) (holds : (rs : List StepRecord) → Guaranteed f (taking rs) (after f rs)) where
  line_says : (ls : List (List ℕ)) (l : Line) → l.board ≡ after f (steps_asked (take l.number ls)) → Says f ls l
  line_says ls l e =
      let rs : List StepRecord = steps_asked (take l.number ls) in
      let g : Guaranteed f (taking rs) l.board = subst (Guaranteed f (taking rs)) (sym e) (holds rs) in
      record { guaranteed = g; finished = (λ w. g.finished.0 (word_finished (verdict l.board) w), λ c. ap state_word (g.finished.1 c)) }

  -- the lines ks were read, and the lines ls are left
  later_say : (ks ls : List (List ℕ)) (b : Board) → b ≡ after f (steps_asked ks) → AllSay f (ks ++ ls) (later_lines (suc (length ks)) b ls)
  unfolding later_lines
  later_say ks [] b e = tt
  later_say ks (l ∷ ls) b e =
      let more : List (List ℕ) = ks ++ l ∷ [] in
      let c : Board = (later_outcome b l).board in
      let next : c ≡ after f (steps_asked more) = ap (λ (x : Board). (later_outcome x l).board) e ∙ one_line_more f ks l in
      let read : take (suc (length ks)) (ks ++ l ∷ ls) ≡ more = ap (λ (n : ℕ). take n (ks ++ l ∷ ls)) (sym (add-one (length ks))) ∙ take-append-add ks (l ∷ ls) 1 in
      let number : length more ≡ suc (length ks) = length-append ks (l ∷ []) ∙ add-one (length ks) in (
        line_says (ks ++ l ∷ ls) _ (next ∙ ap (λ (qs : List (List ℕ)). after f (steps_asked qs)) (sym read)),
        subst (λ (qs : List (List ℕ)). AllSay f qs (later_lines (suc (suc (length ks))) c ls)) (append_assoc ks (l ∷ []) ls)
            (subst (λ (n : ℕ). AllSay f (more ++ ls) (later_lines (suc n) c ls)) number (later_say more ls c next)),
      )

pub listing_guarantee : ListingGuarantee
unfolding ListingGuarantee listing after_all steps_asked
listing_guarantee s e =
    let o : Outcome = start_outcome s in
    let ok = accepted_is o.answer e in
    let by : OpenedBy s = opened_by s ok in
    let holds = opened_guaranteed s ok by in
    record {
      opened = by;
      text = ap (λ (r : Result (Unit {0}) Refusal). heading ++ text_by r (lines_listed s)) ok;
      says = (line_says o.board holds (later_of s) _ refl, later_say o.board holds [] (later_of s) o.board refl);
    }

-- ---- the listing's last line
last_board : (n : ℕ) (l e : Line) (ls : List (List ℕ)) → (get_or (l ∷ later_lines n l.board ls) (length (later_lines n l.board ls)) e).board ≡ board_after l.board ls
unfolding later_lines board_after
last_board n l e [] = refl
last_board n l e (x ∷ ls) = last_board (suc n) (record { number = n; answer = number_of (later_outcome l.board x).answer; board = (later_outcome l.board x).board }) e ls

pub ends_as_listed : EndsAsListed
unfolding EndsAsListed end_outcome
ends_as_listed s e h =
    let last : length (lines_listed s) - 1 ≡ length (later_lines 1 (start_outcome s).board (later_of s)) = omega arith in
    rw (accepted_is (start_outcome s).answer h) (ap (λ (b : Board). record { answer = Ok tt; board = b }) (sym (ap (λ (i : ℕ). (get_or (lines_listed s) i e).board) last ∙ last_board 1 (record { number = 0; answer = 0; board = (start_outcome s).board }) e (later_of s))))
