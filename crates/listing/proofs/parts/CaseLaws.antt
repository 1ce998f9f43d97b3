-- What a call for a part gives, case by case.
use mathlib.Core.Path.{◌≡◌, refl, sym, ap, subst, ◌∙◌}
use mathlib.Core.Bool.{Bool, true, false, ◌||◌}
use mathlib.Core.List.{List, ◌++◌, append-nil}
use Prim.Native.Nat.{ℕ, suc, ◌+◌, ◌-◌, ◌≤◌, ◌<◌}
use native.Mathlib.Nat.{sub-zero}
use native.Mathlib.Omega.{arith}
use lib.ListN.{length, length-append}
use lib.Dec.{leb}
use lib.Seq.{sets, length-sets}
use borrow.Author.Tests.{le-leb, lt-leb, leb-true, leb-false, not-true}
use Rattle.std.specs.Prelude.{Result, Ok, Err}
use Rattle.refusals.specs.Numbers.{number_of}
use Rattle.refusals.specs.declared.Refusal.{Refusal}
use Rattle.refusals.specs.declared.Refusal.TheVariants.{ScriptTooLong, NotSound, NoRoom}
use Rattle.rules.specs.Facts.{judge}
use Rattle.rules.specs.Sound.{sound}
use Rattle.fields.proofs.Cases.{by_test}
use Rattle.rules.proofs.FactLaws.{true_or_false}
use Rattle.rules.specs.declared.Outcome.{Outcome}
use Rattle.placing.specs.Placing.{Writes}
use Rattle.placing.proofs.WriteLaws.{wrote_fits, wrote_short, wrote_count, written_fits, written_short, fits_or_short}
use Rattle.texts.proofs.TextLaws.{stored_then}
use Rattle.listing.specs.Scripts.{start_outcome}
use Rattle.listing.specs.Parts.{Piece, ended, first_piece, piece, stops, before, part_within, part, may_be_listed, may_be_led_to, part_of, part_buffer}
use Rattle.listing.specs.Turns.{start_place, cursor_of, part_by, later_checks, WritesPieces}
use Rattle.texts.specs.Texts.{heading, board_text}
use Rattle.listing.proofs.StartLaws.{ok_not_err, start_cursor, start_text, start_next, start_asked}
use Rattle.listing.proofs.PartLaws.{none, part_stopped, empty_stops, part_then}
use Rattle.listing.specs.declared.NextLine.{NextLine}
use Rattle.listing.specs.declared.Cursor.{Cursor}
use Rattle.listing.specs.declared.Cursor.TheVariants.{Beginning, Behind}
use Rattle.listing.specs.declared.turns.Progress.{Progress}

err_same : {A : Type 0} {j k : Refusal} → ◌≡◌ {A = Result A Refusal} (Err j) (Err k) → j ≡ k
err_same e = cc

-- what a call comes to, and what it leaves of its buffer
abbrev pub Gives : Cursor → List ℕ → List ℕ → Result Progress Refusal → List ℕ → Type 0
Gives c s out r left = (part_by c r ≡ part_of c s out) × (left ≡ part_buffer c s out)

-- the tests that a call makes, in their order
module _ (c : Cursor) (s out : List ℕ) where
  abbrev fits : Bool
  fits = ended c s || leb (length (piece c s).text) (length out)

  gives_26 : may_be_listed c s ≡ false → Gives c s out (Err ScriptTooLong) out
  unfolding part_of part_buffer
  gives_26 e = (sym (rw e), sym (rw e))

  gives_30 : may_be_listed c s ≡ true → may_be_led_to c s ≡ false → Gives c s out (Err NotSound) out
  unfolding part_of part_buffer
  gives_30 e f = (sym (rw (e, f)), sym (rw (e, f)))

  gives_27 : may_be_listed c s ≡ true → may_be_led_to c s ≡ true → fits ≡ false → Gives c s out (Err NoRoom) out
  unfolding part_of part_buffer
  gives_27 e f g = (sym (rw (e, f, g)), sym (rw (e, f, g)))

  gives_part : may_be_listed c s ≡ true → may_be_led_to c s ≡ true → fits ≡ true → {p : Progress} {left : List ℕ} → p.to ≡ length (part c s (length out)).text → cursor_of p ≡ (part c s (length out)).next
      → left ≡ sets out 0 (part c s (length out)).text → Gives c s out (Ok p) left
  unfolding part_of part_buffer
  gives_part e f g {p} n k l =
      (ap (λ (m : ℕ). record { wrote = Ok m; cursor = cursor_of p }) n ∙ ap (λ (d : Cursor). record { wrote = Ok (length (part c s (length out)).text); cursor = d }) k ∙ sym (rw (e, f, g)), l ∙ sym (rw (e, f, g)))

-- ---- a cursor behind the beginning
module _ (q : NextLine) (s out : List ℕ) where
  abbrev here : Cursor
  here = Behind q

  -- behind the whole listing there is nothing to write
  pub later_ended : length s ≤ q.at → Gives here s out (Ok (record { next = q; to = 0 })) out
  later_ended l =
      let end = le-leb (length s) q.at l in
      let none : part here s (length out) ≡ none here = part_stopped (suc (length s)) here s (length out) (rw end) in
      gives_part here s out (rw end) (rw end) (rw end) (sym (ap (λ (x : Piece). length x.text) none)) (sym (ap (λ (x : Piece). x.next) none)) (sym (ap (λ (x : Piece). sets out 0 x.text) none))

  module _ (more : q.at < length s) where
    not_ended : ended here s ≡ false
    not_ended = lt-leb (length s) q.at more

    is_short : length s ≤ 65535 → may_be_listed here s ≡ true
    is_short l = rw (not_ended, le-leb (length s) 65535 l)

    is_kept : sound q.board ≡ true → may_be_led_to here s ≡ true
    is_kept e = rw (not_ended, e)

    pub later_26 : 65535 < length s → Gives here s out (Err ScriptTooLong) out
    later_26 l = gives_26 here s out (rw (not_ended, lt-leb (length s) 65535 l))

    pub later_30 : length s ≤ 65535 → sound q.board ≡ false → Gives here s out (Err NotSound) out
    later_30 l u = gives_30 here s out (is_short l) (rw (not_ended, u))

    -- by what the tests of the cursor answer
    pub later_refused : {r : Result (Unit {0}) Refusal} → r ≡ judge Err (later_checks q s) (Ok tt) → {k : Refusal} → r ≡ Err k → Gives here s out (Err k) out
    later_refused {r} is {k} e =
        let j = sym is ∙ e in
        by_test (leb (length s) 65535)
        (λ l.
        by_test (sound q.board) (λ h. absurd (ok_not_err (rw (l, h) at j)))
        (λ u. subst (λ (i : Refusal). Gives here s out (Err i) out) (err_same (rw (l, u) at j)) (later_30 (leb-true (length s) 65535 l) u)))
        (λ l. subst (λ (i : Refusal). Gives here s out (Err i) out) (err_same (rw l at j)) (later_26 (leb-false (length s) 65535 l)))

    pub later_accepted : {r : Result (Unit {0}) Refusal} → r ≡ judge Err (later_checks q s) (Ok tt) → r ≡ Ok tt → (length s ≤ 65535) × (sound q.board ≡ true)
    later_accepted {r} is e =
        let j = sym is ∙ e in
        by_test (leb (length s) 65535)
        (λ l. by_test (sound q.board) (λ h. (leb-true (length s) 65535 l, h)) (λ u. absurd (ok_not_err (sym (rw (l, u) at j))))) (λ l. absurd (ok_not_err (sym (rw l at j))))

    module _ (l : length s ≤ 65535) (safe : sound q.board ≡ true) {p : Progress} {left : List ℕ} (a : WritesPieces (suc (length s)) (record { next = q; to = 0 }) s out p left) where
      whole : part here s (length out - 0) ≡ part here s (length out)
      whole = ap (part here s) (sub-zero (length out))

      written_length : p.to ≡ length (part here s (length out)).text
      written_length = omega (arith, a.to, ap (λ (x : Piece). length x.text) whole)

      written_bytes : left ≡ sets out 0 (part here s (length out)).text
      written_bytes = a.buffer ∙ ap (λ (x : Piece). sets out 0 x.text) whole

      -- not even the next line fits, and the cursor stays
      module _ (z : p.to ≡ 0) where
        stop : stops here s (length out) ≡ true
        stop = empty_stops (suc (length s)) here s (length out) (omega arith) (omega (arith, written_length, z))

        part_none : part here s (length out) ≡ none here
        part_none = part_stopped (suc (length s)) here s (length out) stop

        pub later_27 : Gives here s out (Err NoRoom) left
        later_27 =
            let no : leb (length (piece here s).text) (length out) ≡ false = not-true _ (rw not_ended at stop) in
            subst (Gives here s out (Err NoRoom)) (sym (written_bytes ∙ ap (λ (x : Piece). sets out 0 x.text) part_none)) (gives_27 here s out (is_short l) (is_kept safe) (rw (not_ended, no)))

        pub later_stays : cursor_of p ≡ here
        later_stays = a.cursor ∙ ap (λ (x : Piece). x.next) (whole ∙ part_none)

      -- the next line fits
      is_fitting : (p.to ≡ 0 → ⊥) → fits here s out ≡ true
      is_fitting n =
          rw not_ended (true_or_false (leb (length (piece here s).text) (length out))
          (λ no. n (omega (arith, written_length, ap (λ (x : Piece). length x.text) (part_stopped (suc (length s)) here s (length out) (rw (not_ended, no)))))))

      pub later_part : (p.to ≡ 0 → ⊥) → Gives here s out (Ok p) left
      later_part n = gives_part here s out (is_short l) (is_kept safe) (is_fitting n) written_length (a.cursor ∙ ap (λ (x : Piece). x.next) whole) written_bytes

-- ---- the beginning
module _ (s out : List ℕ) where
  pub first_27 : length out < length (first_piece s).text → Gives Beginning s out (Err NoRoom) out
  unfolding piece
  first_27 l = gives_27 Beginning s out refl refl (lt-leb (length (first_piece s).text) (length out) l)

  module _ (l : length (first_piece s).text ≤ length out) where
    first_fits : fits Beginning s out ≡ true
    unfolding piece
    first_fits = le-leb (length (first_piece s).text) (length out) l

    one_piece : part_within 1 Beginning s (length out) ≡ first_piece s
    unfolding part_within piece
    one_piece = rw (le-leb (length (first_piece s).text) (length out) l, append-nil)

    -- what is listed behind the first piece
    pub first_part : {p r : Progress} {mid left : List ℕ} → cursor_of p ≡ (first_piece s).next → p.to ≡ length (first_piece s).text → mid ≡ sets out 0 (first_piece s).text → WritesPieces (suc (length s)) p s mid r left
        → Gives Beginning s out (Ok r) left
    first_part {p} {r} {mid} {left} at to filled a =
        let text : List ℕ = (first_piece s).text in
        let room : length mid - p.to ≡ length out - length text = omega (arith, to, ap length filled ∙ length-sets out 0 text) in
        let later : Piece = part (cursor_of p) s (length mid - p.to) in
        let whole : before text later ≡ part Beginning s (length out) =
        ap (λ (k : Cursor). before text (part k s (length mid - p.to))) at ∙ ap (λ (k : ℕ). before text (part (first_piece s).next s k)) room
        ∙ ap (λ (x : Piece). before x.text (part x.next s (length out - length x.text))) (sym one_piece) ∙ part_then 1 Beginning s (length out) in
        gives_part Beginning s out refl refl first_fits
        (omega (arith, a.to, to, length-append text later.text, ap (λ (x : Piece). length x.text) whole)) (a.cursor ∙ ap (λ (x : Piece). x.next) whole)
        (stored_then text later.text 0 p.to out (omega (arith, to)) filled a.buffer ∙ ap (λ (x : Piece). sets out 0 x.text) whole)

-- ---- the calls that list from the beginning, on the outcome o of the first line: the first piece is written, which leaves the buffer mid
module _ (s out : List ℕ) {o : Outcome} (is : o ≡ start_outcome s) {r : Result ℕ Refusal} {mid : List ℕ} (w : Writes (heading ++ board_text 0 (number_of o.answer) o.board) 0 out r mid) where
  first_written : Writes (first_piece s).text 0 out r mid
  first_written = rw (is, sym (start_text s)) at w

  pub start_27 : {k : Refusal} → r ≡ Err k → Gives Beginning s out (Err k) mid
  start_27 {k} e =
      fits_or_short (first_piece s).text 0 out (λ h. absurd (ok_not_err (sym (wrote_fits (first_piece s).text 0 out h) ∙ sym first_written.0 ∙ e)))
      (λ h.
      subst (λ (j : Refusal). Gives Beginning s out (Err j) mid) (err_same (sym (wrote_short (first_piece s).text 0 out h) ∙ sym first_written.0 ∙ e))
      (subst (Gives Beginning s out (Err NoRoom)) (sym (first_written.1 ∙ written_short (first_piece s).text 0 out h)) (first_27 s out (omega (arith, h)))))

  module _ {n : ℕ} (count : r ≡ Ok n) {at : ℕ} (place : at ≡ start_place s o.answer) where
    length_is : (n ≡ length (first_piece s).text) × (0 + length (first_piece s).text ≤ length out)
    length_is = wrote_count (first_piece s).text 0 out (sym first_written.0 ∙ count)

    mid_is : mid ≡ sets out 0 (first_piece s).text
    mid_is = first_written.1 ∙ written_fits (first_piece s).text 0 out length_is.1

    -- what the listing of the later lines asks
    pub start_asks : (at < length s → sound o.board ≡ true) × (n ≤ length mid)
    start_asks = (start_asked s is place, omega (arith, length_is, ap length mid_is ∙ length-sets out 0 (first_piece s).text))

    pub start_part : {p : Progress} {left : List ℕ} → WritesPieces (suc (length s)) (record { next = record { at = at; line = 1; board = o.board }; to = n }) s mid p left
        → Gives Beginning s out (Ok p) left
    start_part a =
        first_part s out (omega (arith, length_is.1)) (ap (λ (k : ℕ). Behind (record { at = k; line = 1; board = o.board })) place ∙ ap (start_cursor s) is ∙ sym (start_next s)) length_is.0 mid_is a
