-- Calls one after another: what they add and what is left to come is always the same; and a listing at once, or counted part by part.
use mathlib.Core.Path.{◌≡◌, refl, sym, ap, ◌∙◌, subst}
use mathlib.Core.Bool.{true, false, not, cond, ◌||◌, Bool}
use mathlib.Core.List.{List, [], ◌∷◌, ◌++◌, append_assoc, append-nil}
use Prim.Native.Nat.{ℕ, zero, suc, ◌-◌, ◌≤◌, ◌+◌, ◌*◌, ◌<◌}
use native.Mathlib.Omega.{arith}
use borrow.Author.Tests.{le-leb, leb-false, not-true}
use lib.ListN.{length, length-append}
use lib.Dec.{leb}
use lib.Seq.{sets}
use Rattle.std.specs.Prelude.{Result, Ok, Err}
use Rattle.refusals.specs.declared.Refusal.{Refusal}
use Rattle.rules.specs.Facts.{Claims, Check, check, test, judge}
use Rattle.rules.proofs.FactLaws.{true_or_false, asked, judge_passed, true_not_false}
use Rattle.rules.proofs.SoundLaws.{sound_tested, below_or_not}
use Rattle.fields.proofs.Cases.{by_test, by_bool, cond_second}
use Rattle.listing.specs.Bounds.{longest_piece, longest_line, ListingBound}
use Rattle.listing.specs.Parts.{Piece, beginning, ended, piece, rest_from, part_within, part, part_checks, call_text, call_next, joined, cursor_after, pieces_within, pieces, AllAtLeast, PartsJoin, stops, part_of, part_buffer}
use Rattle.listing.proofs.PieceLaws.{turns_left, piece_fewer, no_turns, turns_most, rest_beginning, rest_end, rest_piece}
use Rattle.listing.proofs.PartLaws.{goes_on, part_each, part_rest, part_fewer_turns, part_ends, empty_stops}
use Rattle.listing.proofs.LengthLaws.{Kept, part_kept, piece_most}
use Rattle.listing.specs.declared.Cursor.{Cursor}
use Rattle.listing.specs.declared.Cursor.TheVariants.{Beginning, Behind}
use Rattle.placing.specs.Placing.{Writes}
use Rattle.placing.proofs.WriteLaws.{places}
use Rattle.listing.specs.Scripts.{listing}
use Rattle.listing.specs.Turns.{bytes_of}
use Rattle.listing.proofs.BoundLaws.{listing_bound}
use Rattle.listing.specs.declared.Part.{Part}

-- a refused call adds nothing and keeps the cursor, so it is a part of no text
judged_part : (cs : List Check) (c : Cursor) (s text : List ℕ) (next : Cursor) → text ++ rest_from next s ≡ rest_from c s → judge (λ k. []) cs text ++ rest_from (judge (λ k. c) cs next) s ≡ rest_from c s
judged_part [] c s text next e = e
judged_part (check f k ∷ cs) c s text next e =
    by_bool (λ t. cond t (judge (λ j. []) cs text) [] ++ rest_from (cond t (judge (λ j. c) cs next) c) s ≡ rest_from c s) (test f) (λ h. judged_part cs c s text next e) (λ h. refl)

pub call_rest : (c : Cursor) (s : List ℕ) (room : ℕ) → call_text c s room ++ rest_from (call_next c s room) s ≡ rest_from c s
call_rest c s room = judged_part (part_checks c s room) c s (part c s room).text (part c s room).next (part_rest (suc (length s)) c s room)

pub calls_rest : (c : Cursor) (s rooms : List ℕ) → joined c s rooms ++ rest_from (cursor_after c s rooms) s ≡ rest_from c s
unfolding joined cursor_after
calls_rest c s [] = refl
calls_rest c s (room ∷ rooms) = append_assoc (call_text c s room) _ _ ∙ ap (λ (x : List ℕ). call_text c s room ++ x) (calls_rest (call_next c s room) s rooms) ∙ call_rest c s room

-- ---- the pieces from a cursor on
pieces_ended : (k : ℕ) (c : Cursor) (s : List ℕ) → ended c s ≡ true → pieces_within k c s ≡ 0
unfolding pieces_within
pieces_ended zero c s e = refl
pieces_ended (suc k) c s e = rw e

pieces_enough : (k j : ℕ) (c : Cursor) (s : List ℕ) → turns_left c s ≤ k → turns_left c s ≤ j → pieces_within k c s ≡ pieces_within j c s
unfolding pieces_within
pieces_enough zero j c s p q = sym (pieces_ended j c s (no_turns c s p))
pieces_enough (suc k) zero c s p q = pieces_ended (suc k) c s (no_turns c s q)
pieces_enough (suc k) (suc j) c s p q =
    cond_second (ended c s) 0 (λ e. ap suc (pieces_enough k j (piece c s).next s (omega (arith, piece_fewer c s e, p)) (omega (arith, piece_fewer c s e, q))))

pieces_piece : (c : Cursor) (s : List ℕ) → ended c s ≡ false → pieces c s ≡ suc (pieces (piece c s).next s)
unfolding pieces_within
pieces_piece c s e =
    rw e (ap suc (pieces_enough (length s) (suc (length s)) (piece c s).next s (omega (arith, piece_fewer c s e, turns_most c s)) (omega (arith, piece_fewer c s e, turns_most c s))))

no_pieces : (c : Cursor) (s : List ℕ) → pieces c s ≤ 0 → ended c s ≡ true
no_pieces c s p = true_or_false (ended c s) (λ e. omega (arith, p, pieces_piece c s e))

-- a part leaves no more pieces than there were, and fewer where one fits
part_pieces : (k : ℕ) (c : Cursor) (s : List ℕ) (room : ℕ) → pieces (part_within k c s room).next s ≤ pieces c s
part_pieces k c s room = part_each s (λ c room p. pieces p.next s ≤ pieces c s) (λ c room. omega arith) (λ c room p e l ih. omega (arith, ih, pieces_piece c s e)) k c room

part_fewer : (c : Cursor) (s : List ℕ) (room : ℕ) → ended c s ≡ false → length (piece c s).text ≤ room → suc (pieces (part c s room).next s) ≤ pieces c s
unfolding part_within
part_fewer c s room e l = rw (goes_on c s room e l) (omega (arith, pieces_piece c s e, part_pieces (length s) (piece c s).next s (room - length (piece c s).text)))

-- ---- where each buffer holds the longest piece
-- a call on a cursor that the beginning leads to is not refused
pub not_refused : (c : Cursor) (s : List ℕ) (room : ℕ) → Kept c s → ended c s ≡ false → longest_piece ≤ room → Claims (asked (part_checks c s room))
not_refused c s room h e l = by_cursor c h e (le-leb (length (piece c s).text) room (omega (arith, piece_most c s h e)))
  where
    by_cursor : (d : Cursor) → Kept d s → ended d s ≡ false → leb (length (piece d s).text) room ≡ true → Claims (asked (part_checks d s room))
    by_cursor Beginning k m fits = (refl, (refl, (fits, tt)))
    by_cursor (Behind p) k m fits =
        let u = k (leb-false (length s) p.at m) in
        (rw (m, le-leb (length s) 65535 u.short), (rw (m, sound_tested p.board u.is_sound), (rw (m, fits), tt)))

first_empty : (a b : List ℕ) → a ++ b ≡ [] → a ≡ []
first_empty [] b e = refl
first_empty (x ∷ a) b e = cc

calls_end : (c : Cursor) (s rooms : List ℕ) → Kept c s → AllAtLeast longest_piece rooms → pieces c s ≤ length rooms → joined c s rooms ≡ rest_from c s
unfolding joined AllAtLeast
calls_end c s [] h a l = sym (rest_end c s (no_pieces c s l))
calls_end c s (room ∷ rooms) h a l =
    by_test (ended c s) (λ e. first_empty _ _ (calls_rest c s (room ∷ rooms) ∙ rest_end c s e) ∙ sym (rest_end c s e))
    (λ e.
    let ok = not_refused c s room h e a.0 in
    let p : Piece = part c s room in
    ap (λ (t : List ℕ). t ++ joined (call_next c s room) s rooms) (judge_passed (λ k. []) (part_checks c s room) p.text ok)
    ∙ ap (λ (n : Cursor). p.text ++ joined n s rooms) (judge_passed (λ k. c) (part_checks c s room) p.next ok)
    ∙ ap (λ (t : List ℕ). p.text ++ t) (calls_end p.next s rooms (part_kept (suc (length s)) c s room h) a.1 (omega (arith, l, part_fewer c s room e (omega (arith, piece_most c s h e, a.0)))))
    ∙ part_rest (suc (length s)) c s room)

pub parts_joined : (s rooms : List ℕ) → PartsJoin s rooms
parts_joined s rooms = record { joins = calls_rest beginning s rooms ∙ rest_beginning s; ends = λ a l. calls_end beginning s rooms tt a l ∙ rest_beginning s }

-- ---- a call that is not refused
abbrev given : Cursor → List ℕ → List ℕ → Part
given c s out = record { wrote = Ok (length (part c s (length out)).text); cursor = (part c s (length out)).next }

part_given : (c : Cursor) (s out : List ℕ) → Claims (asked (part_checks c s (length out))) → part_of c s out ≡ given c s out
unfolding part_of
part_given c s out ok =
    ap (λ (w : Result ℕ Refusal). record { wrote = w; cursor = call_next c s (length out) }) (judge_passed Err (part_checks c s (length out)) (Ok (length (part c s (length out)).text)) ok)
    ∙ ap (λ (n : Cursor). record { wrote = Ok (length (part c s (length out)).text); cursor = n }) (judge_passed (λ k. c) (part_checks c s (length out)) (part c s (length out)).next ok)

buffer_given : (c : Cursor) (s out : List ℕ) → Claims (asked (part_checks c s (length out))) → part_buffer c s out ≡ sets out 0 (part c s (length out)).text
unfolding part_buffer
buffer_given c s out ok = ap (sets out 0) (judge_passed (λ k. []) (part_checks c s (length out)) (part c s (length out)).text ok)

-- ---- the length
-- at the head of each turn: the bytes counted, and those still to come
pub record Counting (s : List ℕ) (c : Cursor) (n : ℕ) : Type 0 where
  pub kept : Kept c s
  pub sum : n + length (rest_from c s) ≡ length (listing s)

pub counting_begins : (s : List ℕ) (c : Cursor) → c ≡ beginning → Counting s c 0
counting_begins s c e = subst (λ (x : Cursor). Counting s x 0) (sym e) (record { kept = tt; sum = omega (arith, ap length (rest_beginning s)) })

pub counting_ends : (s : List ℕ) (c : Cursor) (n : ℕ) → Counting s c n → ended c s ≡ true → n ≡ length (listing s)
counting_ends s c n t e = omega (arith, t.sum, ap length (rest_end c s e))

module _ {s : List ℕ} {c : Cursor} {n : ℕ} (t : Counting s c n) (more : ended c s ≡ false) (out : List ℕ) (room : longest_piece ≤ length out) {p : Part} (is : p ≡ part_of c s out) where
  gave : p ≡ given c s out
  gave = is ∙ part_given c s out (not_refused c s (length out) t.kept more room)

  counted : bytes_of p.wrote ≡ length (part c s (length out)).text
  counted = ap (λ (x : Part). bytes_of x.wrote) gave

  left : length (part c s (length out)).text + length (rest_from p.cursor s) ≡ length (rest_from c s)
  left = omega (arith, ap (λ (x : Part). length (rest_from x.cursor s)) gave, length-append (part c s (length out)).text (rest_from (part c s (length out)).next s), ap length (part_rest (suc (length s)) c s (length out)))

  pub counting_goes : {k : ℕ} → k ≡ bytes_of p.wrote → Counting s p.cursor (n + k)
  counting_goes e = record {
    kept = subst (λ (x : Part). Kept x.cursor s) (sym gave) (part_kept (suc (length s)) c s (length out) t.kept);
    sum = omega (arith, e, t.sum, counted, left);
  }

  -- no listing is too long to be counted
  pub counting_fits : {k : ℕ} → k ≡ bytes_of p.wrote → n + k ≤ longest_piece + longest_line * 65534
  unfolding ListingBound
  counting_fits e = omega (arith, e, t.sum, counted, left, listing_bound s)

  pub counting_less : turns_left p.cursor s < turns_left c s
  counting_less =
      let go : stops c s (length out) ≡ false = goes_on c s (length out) more (omega (arith, room, piece_most c s t.kept more)) in
      let some : 1 ≤ length (part c s (length out)).text = below_or_not 0 (length (part c s (length out)).text) (λ l. l) (λ l. absurd (true_not_false (sym (empty_stops (suc (length s)) c s (length out) (omega arith) l) ∙ go))) in
      omega (arith, ap (λ (x : Part). turns_left x.cursor s) gave, part_fewer_turns (suc (length s)) c s (length out) some)

-- ---- one part that holds all
module _ (s : List ℕ) (room : ℕ) (fits : length (listing s) ≤ room) where
  abbrev all : Piece
  all = part beginning s room

  all_rest : all.text ++ rest_from all.next s ≡ listing s
  all_rest = part_rest (suc (length s)) beginning s room ∙ rest_beginning s

  whole_text : all.text ≡ listing s
  whole_text = sym (append-nil all.text) ∙ ap (λ (t : List ℕ). all.text ++ t) (sym (by_end (ended all.next s) refl)) ∙ all_rest
    where
      stop : stops all.next s (room - length all.text) ≡ true
      stop = part_ends (suc (length s)) beginning s room (turns_most beginning s)

      by_end : (t : Bool) → ended all.next s ≡ t → rest_from all.next s ≡ []
      by_end true e = rest_end all.next s e
      by_end false e =
          let no : leb (length (piece all.next s).text) (room - length all.text) ≡ false = not-true _ (sym (ap (λ (t : Bool). t || not (leb (length (piece all.next s).text) (room - length all.text))) e) ∙ stop) in
          absurd (omega (arith, fits, leb-false (length (piece all.next s).text) (room - length all.text) no, length-append all.text (rest_from all.next s), ap length all_rest, ap length (rest_piece all.next s e), length-append (piece all.next s).text (rest_from (piece all.next s).next s)))

  -- the first piece fits, so the call is not refused
  whole_asked : Claims (asked (part_checks beginning s room))
  whole_asked =
      let first : length (piece beginning s).text ≤ room = omega (arith, fits, ap length (sym (rest_beginning s) ∙ rest_piece beginning s refl), length-append (piece beginning s).text (rest_from (piece beginning s).next s)) in
      (refl, (refl, (le-leb (length (piece beginning s).text) room first, tt)))

pub whole_listed : (s out : List ℕ) {c : Cursor} {p : Part} {left : List ℕ} → c ≡ beginning → length (listing s) ≤ length out → p ≡ part_of c s out → left ≡ part_buffer c s out → Writes (listing s) 0 out p.wrote left
whole_listed s out {c} {p} {left} b fits e f =
    let text : (part beginning s (length out)).text ≡ listing s = whole_text s (length out) fits in
    places (listing s) 0 out (omega (arith, fits))
    (ap (λ (x : Part). x.wrote) (e ∙ ap (λ (k : Cursor). part_of k s out) b ∙ part_given beginning s out (whole_asked s (length out) fits)) ∙ ap (λ (t : List ℕ). Ok (length t)) text)
    (f ∙ ap (λ (k : Cursor). part_buffer k s out) b ∙ buffer_given beginning s out (whole_asked s (length out) fits) ∙ ap (λ (t : List ℕ). sets out 0 t) text)
