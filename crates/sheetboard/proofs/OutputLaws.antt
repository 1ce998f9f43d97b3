-- The parts of a listing as they are handed over: what a call leaves in its buffer, and what the calls one after another join to.
use mathlib.Core.Path.{◌≡◌, refl, sym, ap, subst, ◌∙◌}
use mathlib.Core.Bool.{Bool, true, false, cond}
use mathlib.Core.List.{List, [], ◌∷◌, ◌++◌, append-nil, append_assoc}
use Prim.Native.Nat.{ℕ, zero, suc, ◌+◌, ◌*◌, ◌≤◌, ◌<◌}
use native.Mathlib.Omega.{arith}
use lib.ListN.{length, take, drop, replicate, length-append}
use lib.Seq.{sets-eq, take_at, length-take-le}
use Rattle.std.proofs.KnownBytes.{Appends-nil, Appends-trans}
use Rattle.std.specs.Io.KnownBytes.{Appends}
use Rattle.std.specs.declared.option.Option.{Option}
use Rattle.rules.specs.Facts.{Check, check, test, judge}
use Rattle.rules.proofs.JudgeLaws.{judge_map}
use Rattle.std.specs.Prelude.{Ok, Err}
use Rattle.listing.specs.Scripts.{listing}
use Rattle.listing.specs.Bounds.{longest_piece, longest_line, ListingBound}
use Rattle.listing.specs.Parts.{beginning, ended, rest_from, part, part_checks, part_of, part_buffer, call_text, call_next, joined, cursor_after}
use Rattle.listing.specs.Turns.{bytes_of}
use Rattle.listing.specs.declared.Cursor.{Cursor}
use Rattle.listing.specs.declared.Part.{Part}
use Rattle.listing.proofs.BoundLaws.{listing_bound}
use Rattle.listing.proofs.PieceLaws.{turns_left}
use Rattle.listing.proofs.PartLaws.{part_room}
use Rattle.listing.proofs.CallLaws.{parts_joined, Counting, counting_begins, counting_ends, counting_goes, counting_less}
use Rattle.sheetboard.specs.Output.{Hands, Follows}

-- ---- one call
-- a judged text is no longer than its room
judged_room : (cs : List Check) (text : List ℕ) (room : ℕ) → length text ≤ room → length (judge (λ k. []) cs text) ≤ room
judged_room [] text room l = l
judged_room (check f k ∷ cs) text room l = by_test (test f) (judged_room cs text room l)
  where
    by_test : (t : Bool) → length (judge (λ j. []) cs text) ≤ room → length (cond t (judge (λ j. []) cs text) []) ≤ room
    by_test true h = h
    by_test false h = omega arith

module _ (c : Cursor) (s out : List ℕ) where
  call_fits : length (call_text c s (length out)) ≤ length out
  call_fits = judged_room (part_checks c s (length out)) (part c s (length out)).text (length out) (part_room (suc (length s)) c s (length out))

  call_starts : take (length (call_text c s (length out))) (part_buffer c s out) ≡ call_text c s (length out)
  unfolding part_buffer
  call_starts =
      let text : List ℕ = call_text c s (length out) in
      rw (sets-eq text out 0 (omega (arith, call_fits))) (take_at text (drop (0 + length text) out) (length text) refl)

  call_count : bytes_of (part_of c s out).wrote ≡ length (call_text c s (length out))
  unfolding part_of
  call_count =
      judge_map bytes_of (λ k. Err k) (part_checks c s (length out)) (Ok (length (part c s (length out)).text))
      ∙ sym (judge_map {A = List ℕ} length (λ k. []) (part_checks c s (length out)) (part c s (length out)).text)

  call_cursor : (part_of c s out).cursor ≡ call_next c s (length out)
  unfolding part_of
  call_cursor = refl

  module _ {p : Part} {left : List ℕ} (e : p ≡ part_of c s out) (b : left ≡ part_buffer c s out) {count : ℕ} (n : count ≡ bytes_of p.wrote) where
    counts : count ≡ length (call_text c s (length out))
    counts = n ∙ ap (λ (x : Part). bytes_of x.wrote) e ∙ call_count

    pub counted_fits : count ≤ length out
    counted_fits = omega (arith, counts, call_fits)

    pub handed_text : take count left ≡ call_text c s (length out)
    handed_text = rw (counts, b) call_starts

    pub hands : {before after : ℕ} → after ≡ before + length (take count left) → Hands c s (length out) before after left
    hands {before} {after} h = record { count_is = h ∙ ap (λ (x : List ℕ). before + length x) handed_text; bytes_are = ap (λ (k : ℕ). take k left) (sym counts) ∙ handed_text }

    pub goes_on : p.cursor ≡ call_next c s (length out)
    goes_on = ap (λ (x : Part). x.cursor) e ∙ call_cursor

-- ---- turns one after another, each with the same room
abbrev rooms : ℕ → List ℕ
rooms turns = replicate turns 32768

joined_next : (turns : ℕ) (c : Cursor) (s : List ℕ) → joined c s (rooms (suc turns)) ≡ joined c s (rooms turns) ++ call_text (cursor_after c s (rooms turns)) s 32768
unfolding joined cursor_after
joined_next zero c s = append-nil (call_text c s 32768)
joined_next (suc turns) c s = ap (λ (x : List ℕ). call_text c s 32768 ++ x) (joined_next turns (call_next c s 32768) s) ∙ sym (append_assoc (call_text c s 32768) _ _)

cursor_next : (turns : ℕ) (c : Cursor) (s : List ℕ) → cursor_after c s (rooms (suc turns)) ≡ call_next (cursor_after c s (rooms turns)) s 32768
unfolding cursor_after
cursor_next zero c s = refl
cursor_next (suc turns) c s = cursor_next turns (call_next c s 32768) s

-- as many bytes as the parts joined have are the first of the listing
joined_follows : (s : List ℕ) (turns count : ℕ) → length (joined beginning s (rooms turns)) ≡ count → Follows s count
joined_follows s turns count e =
    let all = (parts_joined s (rooms turns)).joins in
    record {
      turns = turns;
      joins = sym (take_at (joined beginning s (rooms turns)) _ count e) ∙ ap (take count) all;
      no_more = omega (arith, e, ap length all, length-append (joined beginning s (rooms turns)) (rest_from (cursor_after beginning s (rooms turns)) s));
    }

-- ---- the loop: at the head of each turn, what was counted, and the turns that led to the cursor
pub record Handing (s : List ℕ) (c : Cursor) (n : ℕ) : Type 0 where
  pub counting : Counting s c n
  pub follows : Follows s n
  pub behind : c ≡ cursor_after beginning s (rooms follows.turns)

pub handing_begins : (s : List ℕ) (c : Cursor) → c ≡ beginning → Handing s c 0
unfolding joined cursor_after joined_follows
handing_begins s c e = record { counting = counting_begins s c e; follows = joined_follows s 0 0 refl; behind = e }

-- where nothing is counted yet
module _ (s : List ℕ) {n : ℕ} (none : n ≡ 0) where
  pub handing_begun : (c : Cursor) → c ≡ beginning → Handing s c n
  handing_begun c e = subst (Handing s c) (sym none) (handing_begins s c e)

  pub nothing_arrived : (a : Option (List ℕ)) → Appends a a (take n (listing s))
  nothing_arrived a = subst (λ (k : ℕ). Appends a a (take k (listing s))) (sym none) (Appends-nil a)

-- no listing is too long to be counted
pub handing_most : {s : List ℕ} {c : Cursor} {n : ℕ} → Handing s c n → n ≤ longest_piece + longest_line * 65534
unfolding ListingBound
handing_most {s} {c} {n} t = omega (arith, t.follows.no_more, listing_bound s)

pub handing_ends : (s : List ℕ) (c : Cursor) (n : ℕ) → Handing s c n → ended c s ≡ true → n ≡ length (listing s)
handing_ends s c n t e = counting_ends s c n t.counting e

module _ {s : List ℕ} {c : Cursor} {n : ℕ} (t : Handing s c n) (more : ended c s ≡ false) (out : List ℕ) (room : length out ≡ 32768) {after : ℕ} {left : List ℕ} (h : Hands c s (length out) n after left) where
  bytes : length (call_text c s (length out)) ≡ bytes_of (part_of c s out).wrote
  bytes = sym (call_count c s out)

  enough : longest_piece ≤ length out
  enough = omega (arith, room)

  abbrev so_far : ℕ
  so_far = t.follows.turns

  abbrev from : Cursor
  from = cursor_after beginning s (rooms so_far)

  part_text : call_text c s (length out) ≡ call_text from s 32768
  part_text = ap (λ (x : Cursor). call_text x s (length out)) t.behind ∙ ap (call_text from s) room

  -- the bytes counted are those of the parts, this one with them
  counted : length (joined beginning s (rooms (suc so_far))) ≡ after
  counted =
      omega (arith, ap length (joined_next so_far beginning s), length-append (joined beginning s (rooms so_far)) (call_text from s 32768), ap length t.follows.joins, length-take-le n (listing s) t.follows.no_more, ap length part_text, h.count_is)

  -- the bytes counted are those before, and behind them this part's
  counted_text : take after (listing s) ≡ take n (listing s) ++ call_text c s (length out)
  unfolding joined_follows
  counted_text =
      sym (joined_follows s (suc so_far) after counted).joins ∙ joined_next so_far beginning s
      ∙ ap (λ (x : List ℕ). x ++ call_text from s 32768) t.follows.joins ∙ ap (λ (x : List ℕ). take n (listing s) ++ x) (sym part_text)

  -- so where the output has got those before, and then takes this part, it has got all that is counted
  pub handing_arrives : (a b d : Option (List ℕ)) → Appends a b (take n (listing s)) → Appends b d (call_text c s (length out)) → Appends a d (take after (listing s))
  handing_arrives a b d first then = subst (Appends a d) (sym counted_text) (Appends-trans a b d (take n (listing s)) (call_text c s (length out)) first then)

  pub handing_follows : Follows s after
  handing_follows = joined_follows s (suc so_far) after counted

  pub handing_goes : {next : Cursor} → next ≡ call_next c s (length out) → Handing s next after
  unfolding joined_follows
  handing_goes e = record {
    counting = subst (λ (x : Cursor). Counting s x after) (call_cursor c s out ∙ sym e) (subst (Counting s (part_of c s out).cursor) (sym h.count_is) (counting_goes t.counting more out enough refl bytes));
    follows = joined_follows s (suc so_far) after counted;
    behind = e ∙ ap (λ (x : Cursor). call_next x s (length out)) t.behind ∙ ap (call_next from s) room ∙ sym (cursor_next so_far beginning s);
  }

  pub handing_less : {next : Cursor} → next ≡ call_next c s (length out) → turns_left next s < turns_left c s
  handing_less e = subst (λ (x : Cursor). turns_left x s < turns_left c s) (call_cursor c s out ∙ sym e) (counting_less t.counting more out enough {p = part_of c s out} refl)
