-- The count of delays with which a board is sound, as its loop goes: what is left from each turn on gives what the whole gives.
use mathlib.Core.Path.{◌≡◌, refl, sym, ap, ◌∙◌}
use mathlib.Core.Bool.{Bool}
use mathlib.Core.List.{List, [], ◌∷◌}
use Prim.Native.Nat.{ℕ, ◌+◌, ◌≤◌, ◌<◌}
use native.Mathlib.Numerals.{add-one}
use native.Mathlib.Omega.{arith}
use lib.ListN.{length, get_or, drop, drop_of_length-le}
use lib.Seq.{drop-cons}
use Rattle.rules.specs.Facts.{one_if}
use Rattle.rules.specs.Sound.{sound}
use Rattle.rules.specs.declared.Board.{Board}
use Rattle.board.proofs.SlotLaws.{one_at_most}
use Rattle.bench.specs.Counts.{with_delay, sound_with}

-- what the delay was before does not matter
delay_forgotten : (b : Board) (d : ℕ) (ds : List ℕ) → sound_with (with_delay b d) ds ≡ sound_with b ds
unfolding sound_with
delay_forgotten b d [] = refl
delay_forgotten b d (e ∷ es) = ap (λ (k : ℕ). one_if (sound (with_delay b e)) + k) (delay_forgotten b d es)

delay_here : (b : Board) (ds : List ℕ) (i : ℕ) → i < length ds → sound_with b (drop i ds) ≡ one_if (sound (with_delay b (get_or ds i 0))) + sound_with b (drop (i + 1) ds)
unfolding sound_with
delay_here b ds i l =
    ap (sound_with b) (drop-cons ds i 0 l) ∙ ap (λ (j : ℕ). one_if (sound (with_delay b (get_or ds i 0))) + sound_with b (drop j ds)) (sym (add-one i))

delay_none : (b : Board) (ds : List ℕ) (i : ℕ) → length ds ≤ i → sound_with b (drop i ds) ≡ 0
unfolding sound_with
delay_none b ds i l = ap (sound_with b) (drop_of_length-le ds {i = i} l)

-- at the head of each turn, i delays are tried
pub record DelayTurn (b₀ : Board) (ds : List ℕ) (b : Board) (count i : ℕ) : Type 0 where
  pub within : i ≤ length ds
  pub counts : count ≤ i
  pub gives : count + sound_with b (drop i ds) ≡ sound_with b₀ ds

module _ {b₀ : Board} {ds : List ℕ} {b : Board} {count i : ℕ} (t : DelayTurn b₀ ds b count i) where
  pub turn_goes : i < length ds → {s : Bool} {k : ℕ} → s ≡ sound (with_delay b (get_or ds i 0)) → k ≡ one_if s → DelayTurn b₀ ds (with_delay b (get_or ds i 0)) (count + k) (i + 1)
  turn_goes l {s} {k} e f = record {
    within = omega arith;
    counts = omega (arith, t.counts, f, one_at_most s);
    gives = omega (arith, t.gives, f, ap one_if e, delay_here b ds i l, delay_forgotten b (get_or ds i 0) (drop (i + 1) ds));
  }

  pub turn_ends : length ds ≤ i → count ≡ sound_with b₀ ds
  turn_ends l = omega (arith, t.gives, delay_none b ds i l)
