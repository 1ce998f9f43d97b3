-- The steps in given ranges: how many there are, and each by its number.
use mathlib.Core.Path.{◌≡◌, refl, sym, ap, ◌∙◌}
use mathlib.Core.List.{List, [], ◌∷◌}
use Prim.Native.Nat.{ℕ, zero, suc, ◌*◌, ◌/◌, ◌%◌, ◌<◌}
use native.Mathlib.Nat.{mul-zero, mod-lt, mod-one, div-one, div-add-mod', div-lt_iff_lt-mul}
use native.Mathlib.Omega.{arith}
use lib.ListN.{length, get_or}
use Rattle.std.specs.List.{range_with_len}
use Rattle.std.proofs.lemmas.List.FromFn.{length-range_with_len, get_or-range_with_len}
use Rattle.rules.specs.declared.StepRecord.{StepRecord}
use Rattle.census.specs.Choices.{range_size, for_each, steps_in}
use Rattle.steps.specs.NoStep.{no_step}
use Rattle.census.proofs.ForEachLaws.{length_for_each, for_each_at}

-- lists of one length w, one for each number below k: their length, and an element by division
numbered_length : {B : Type 0} (w k : ℕ) (f : ℕ → List B) → ((x : ℕ) → length (f x) ≡ w) → length (for_each (range_with_len 0 k) f) ≡ k * w
numbered_length w k f e = length_for_each w (range_with_len 0 k) f e ∙ ap (λ (x : ℕ). x * w) (length-range_with_len 0 k)

-- a factor of a product above a number is not 0
pub factor_above : (i k w : ℕ) → i < k * w → 0 < w
factor_above i k zero l = absurd (omega (arith, l, mul-zero k))
factor_above i k (suc w) l = omega arith

numbered_at : {B : Type 0} (w k : ℕ) (f : ℕ → List B) → ((x : ℕ) → length (f x) ≡ w) → (i : ℕ) (d : B) → i < k * w → get_or (for_each (range_with_len 0 k) f) i d ≡ get_or (f (i / w)) (i % w) d
numbered_at w k f e i d l =
    let w-above : 0 < w = factor_above i k w l in
    let within : i / w < k = (div-lt_iff_lt-mul w-above).1 l in
    ap (λ (x : ℕ). get_or (for_each (range_with_len 0 k) f) x d) (sym (div-add-mod' i w))
    ∙ for_each_at w (range_with_len 0 k) f e (i / w) (i % w) 0 d (omega (arith, within, length-range_with_len 0 k)) (mod-lt i w-above)
    ∙ ap (λ (x : ℕ). get_or (f x) (i % w) d) (get_or-range_with_len 0 k (i / w) 0 within ∙ omega arith)

-- the steps of one unit and one other, and those of one unit
abbrev for_pair : StepRecord → ℕ → ℕ → List StepRecord
for_pair c u v = for_each (range_with_len 0 c.slot) (λ s. record { kind = c.kind; unit = u; other = v; slot = s } ∷ [])

abbrev for_unit : StepRecord → ℕ → List StepRecord
for_unit c u = for_each (range_with_len 0 c.other) (for_pair c u)

pair_length : (c : StepRecord) (u v : ℕ) → length (for_pair c u v) ≡ c.slot
pair_length c u v = numbered_length 1 c.slot _ (λ s. refl) ∙ omega arith

for_unit_length : (c : StepRecord) (u : ℕ) → length (for_unit c u) ≡ c.other * c.slot
for_unit_length c u = numbered_length c.slot c.other (for_pair c u) (pair_length c u)

slot_at : (c : StepRecord) (u v s : ℕ) → s < c.slot → get_or (for_pair c u v) s no_step ≡ record { kind = c.kind; unit = u; other = v; slot = s }
slot_at c u v s l =
    numbered_at 1 c.slot _ (λ x. refl) s no_step (omega (arith, l))
    ∙ (λ k. get_or {A = StepRecord} (record { kind = c.kind; unit = u; other = v; slot = div-one s k } ∷ []) (mod-one s k) no_step)

pub steps_in_length : (c : StepRecord) → length (steps_in c) ≡ range_size c
unfolding steps_in
steps_in_length c = numbered_length (c.other * c.slot) c.unit (for_unit c) (for_unit_length c)

-- the step by its number: the slot counts up first, then the other unit, then the unit
pub step_in_at :
    (c : StepRecord) (i : ℕ) → i < range_size c
    → get_or (steps_in c) i no_step
    ≡ record { kind = c.kind; unit = i / (c.other * c.slot); other = i % (c.other * c.slot) / c.slot; slot = i % (c.other * c.slot) % c.slot }
unfolding steps_in
step_in_at c i l =
    let pairs : ℕ = c.other * c.slot in
    let pair-within : i % pairs < c.other * c.slot = mod-lt i (factor_above i c.unit pairs l) in
    let slot-within : i % pairs % c.slot < c.slot = mod-lt (i % pairs) (factor_above (i % pairs) c.other c.slot pair-within) in
    numbered_at pairs c.unit (for_unit c) (for_unit_length c) i no_step l
    ∙ numbered_at c.slot c.other (for_pair c (i / pairs)) (pair_length c (i / pairs)) (i % pairs) no_step pair-within
    ∙ slot_at c (i / pairs) (i % pairs / c.slot) (i % pairs % c.slot) slot-within
