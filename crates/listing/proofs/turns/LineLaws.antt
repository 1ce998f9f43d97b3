-- Batches one after another write what all pieces that fit write.
use mathlib.Core.Path.{◌≡◌, refl, sym, ap, subst, ◌∙◌}
use mathlib.Core.Bool.{true, false}
use mathlib.Core.List.{List}
use Prim.Native.Nat.{ℕ, suc, ◌-◌, ◌≤◌, ◌<◌}
use native.Mathlib.Omega.{arith}
use borrow.Author.Tests.{le-leb}
use lib.ListN.{length, drop, length-append}
use lib.Seq.{sets, length-sets}
use Rattle.rules.specs.Sound.{Sound, sound}
use Rattle.rules.proofs.SoundLaws.{sound_claims, sound_tested}
use Rattle.texts.proofs.TextLaws.{stored_then}
use Rattle.fields.specs.Fields.{up_to}
use Rattle.script.specs.Lines.{reading, step_by}
use Rattle.listing.specs.Parts.{Piece, later_piece, piece, before, part_within, part}
use Rattle.listing.specs.Turns.{cursor_of, WritesPieces}
use Rattle.listing.specs.declared.Cursor.{Cursor}
use Rattle.listing.specs.declared.Cursor.TheVariants.{Beginning, Behind}
use Rattle.listing.specs.declared.turns.Progress.{Progress}
use Rattle.listing.proofs.PieceLaws.{turns_left}
use Rattle.listing.proofs.PartLaws.{none, part_each, part_stopped, part_fewer_turns, part_room, empty_stops, part_then, writes_as}
use Rattle.listing.proofs.LengthLaws.{outcome_sound}

-- ---- boards stay sound behind the beginning
abbrev Safe : Cursor → Type 0
Safe Beginning = ⊥
Safe (Behind p) = Sound p.board

piece_safe : (c : Cursor) (s : List ℕ) → Safe c → Safe (piece c s).next
unfolding piece later_piece
piece_safe Beginning s h = absurd h
piece_safe (Behind p) s h = outcome_sound p.board (step_by (reading false (up_to 10 (drop p.at s)))) h

part_safe : (k : ℕ) (c : Cursor) (s : List ℕ) (room : ℕ) → Safe c → Safe (part_within k c s room).next
part_safe k c s room = part_each s (λ c room p. Safe c → Safe p.next) (λ c room h. h) (λ c room p e l ih h. ih (piece_safe c s h)) k c room

-- ---- one batch, and then the rest
module _ {k : ℕ} {p q : Progress} {s out mid : List ℕ} (a : WritesPieces k p s out q mid) where
  abbrev first : Piece
  first = part_within k (cursor_of p) s (length out - p.to)

  same_length : length mid ≡ length out
  same_length = ap length a.buffer ∙ length-sets out p.to first.text

  stays_inside : p.to ≤ length out → q.to ≤ length mid
  stays_inside l = omega (arith, same_length, a.to, part_room k (cursor_of p) s (length out - p.to))

  stays_sound : Sound p.next.board → Sound q.next.board
  stays_sound h = subst Safe (sym a.cursor) (part_safe k (cursor_of p) s (length out - p.to) h)

  -- a batch that wrote something took lines of the script
  pub takes_lines : (q.to ≡ p.to → ⊥) → length s - q.next.at < length s - p.next.at
  takes_lines n = omega (arith, ap (λ (c : Cursor). turns_left c s) a.cursor, part_fewer_turns k (cursor_of p) s (length out - p.to) (omega (arith, a.to, n)))

  -- what is written behind it is written behind p
  advances_then : {r : Progress} {left : List ℕ} → p.to ≤ length out → WritesPieces (suc (length s)) q s mid r left → WritesPieces (suc (length s)) p s out r left
  advances_then {r} {left} l b =
      let room : length mid - q.to ≡ length out - p.to - length first.text = omega (arith, same_length, a.to) in
      let rest : part (cursor_of q) s (length mid - q.to) ≡ part first.next s (length out - p.to - length first.text) = ap (λ (c : Cursor). part c s (length mid - q.to)) a.cursor ∙ ap (λ (i : ℕ). part first.next s i) room in
      let whole : before first.text (part (cursor_of q) s (length mid - q.to)) ≡ part (cursor_of p) s (length out - p.to) = ap (before first.text) rest ∙ part_then k (cursor_of p) s (length out - p.to) in
      let later : List ℕ = (part (cursor_of q) s (length mid - q.to)).text in
      record {
        cursor = b.cursor ∙ ap (λ (x : Piece). x.next) whole;
        to = omega (arith, b.to, a.to, length-append first.text later, ap (λ (x : Piece). length x.text) whole);
        buffer = stored_then first.text later p.to q.to out a.to a.buffer b.buffer ∙ ap (λ (x : Piece). sets out p.to x.text) whole;
      }

  -- a batch that wrote nothing is the end
  pub advances_last : 1 ≤ k → q.to ≡ p.to → WritesPieces (suc (length s)) p s out q mid
  advances_last some e =
      let stop = empty_stops k (cursor_of p) s (length out - p.to) some (omega (arith, a.to, e)) in
      let same : part (cursor_of p) s (length out - p.to) ≡ first = part_stopped (suc (length s)) (cursor_of p) s (length out - p.to) stop ∙ sym (part_stopped k (cursor_of p) s (length out - p.to) stop) in
      writes_as first same a.cursor a.to a.buffer

-- behind the script's end there is nothing to write
pub advances_none : (p : Progress) (s out : List ℕ) → length s ≤ p.next.at → WritesPieces (suc (length s)) p s out p out
advances_none p s out l = writes_as (none (cursor_of p)) (part_stopped (suc (length s)) (cursor_of p) s (length out - p.to) (rw (le-leb (length s) p.next.at l))) refl (omega arith) refl

-- at the head of each turn: what is written from here on is written from p₀ on
pub record LinesTurn (p₀ : Progress) (s out₀ : List ℕ) (p : Progress) (out : List ℕ) : Type 0 where
  pub inside : p.to ≤ length out
  pub same : length out ≡ length out₀
  pub is_sound : p.next.at < length s → sound p.next.board ≡ true
  pub gives : (r : Progress) (left : List ℕ) → WritesPieces (suc (length s)) p s out r left → WritesPieces (suc (length s)) p₀ s out₀ r left

pub lines_go : {p₀ p q : Progress} {s out₀ out mid : List ℕ} {k : ℕ} → LinesTurn p₀ s out₀ p out → p.next.at < length s → WritesPieces k p s out q mid → LinesTurn p₀ s out₀ q mid
lines_go {p₀} {p} {q} {s} {out₀} {out} {mid} t l a = record {
  inside = stays_inside a t.inside;
  same = same_length a ∙ t.same;
  is_sound = λ m. sound_tested q.next.board (stays_sound a (sound_claims p.next.board (t.is_sound l)));
  gives = λ r left b. t.gives r left (advances_then a t.inside b);
}
