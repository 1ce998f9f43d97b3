-- Choices that are listed one behind the other: those of one kind, and kind by kind.
use mathlib.Core.Path.{◌≡◌, refl, sym, ap, ◌∙◌}
use mathlib.Core.List.{List, [], ◌∷◌, ◌++◌, append_assoc, append-nil}
use Prim.Native.Nat.{ℕ, ◌+◌, ◌*◌, ◌≤◌, ◌<◌}
use native.Mathlib.Nat.{mul-le-mul}
use native.Mathlib.Omega.{arith}
use lib.ListN.{length, get_or, set, take, length-append}
use Rattle.std.specs.List.{flat_map}
use Rattle.std.proofs.lemmas.List.{take_more, take_more_set, flat_map_more}
use Rattle.rules.specs.declared.StepRecord.{StepRecord}
use Rattle.rules.specs.declared.Action.{Action}
use Rattle.rules.specs.declared.Action.TheVariants.{Unknown, Start, Send, Request as RequestStep, Deliver, Rest, Tick, Release, Move}
use Rattle.steps.specs.NoStep.{no_step}
use Rattle.census.specs.Choices.{seven_kinds, ranges, range_size, for_each, steps_in, choices}
use Rattle.census.proofs.choices.RangeLaws.{steps_in_length}

-- the ranges of any kind are small, and so are the steps in them few
abbrev pub Small : StepRecord → Type 0
Small c = (c.unit ≤ 3) × (c.other ≤ 3) × (c.slot ≤ 2)

pub ranges_small : (n m : ℕ) (a : Action) → n ≤ 3 → m ≤ 2 → Small (ranges n m a)
ranges_small n m Unknown p q = (omega arith, omega arith, omega arith)
ranges_small n m Start p q = (omega arith, omega arith, omega arith)
ranges_small n m Send p q = (omega arith, omega arith, omega arith)
ranges_small n m RequestStep p q = (omega arith, omega arith, omega arith)
ranges_small n m Deliver p q = (omega arith, omega arith, omega arith)
ranges_small n m Rest p q = (omega arith, omega arith, omega arith)
ranges_small n m Tick p q = (omega arith, omega arith, omega arith)
ranges_small n m Release p q = (omega arith, omega arith, omega arith)
ranges_small n m Move p q = (omega arith, omega arith, omega arith)

pub few_steps : (c : StepRecord) → Small c → range_size c ≤ 18
few_steps c s = omega (arith, mul-le-mul s.0 (mul-le-mul s.1 s.2))

-- ---- behind the steps in front the first i of others are listed
pub record Added (rs front : List StepRecord) (count₀ i count : ℕ) (list : List StepRecord) : Type 0 where
  pub counted : count ≡ count₀ + i
  pub listed : take count list ≡ front ++ take i rs

pub none_added : (rs list : List StepRecord) (count : ℕ) → Added rs (take count list) count 0 count list
none_added rs list count = record { counted = omega arith; listed = sym (append-nil (take count list)) }

pub one_added : {rs front list : List StepRecord} {count₀ i count : ℕ} {r : StepRecord} → Added rs front count₀ i count list → i < length rs → count < length list → r ≡ get_or rs i no_step → Added rs front count₀ (i + 1) (count + 1) (set list count r)
one_added {rs} {front} {list} {count₀} {i} {count} {r} a l m e = record {
  counted = omega (arith, a.counted);
  listed =
      take_more_set list count r m
      ∙ (λ k. a.listed k ++ (e k ∷ []))
      ∙ append_assoc front (take i rs) (get_or rs i no_step ∷ [])
      ∙ ap (λ (qs : List StepRecord). front ++ qs) (sym (take_more rs i no_step l));
}

-- ---- kind by kind
pub record KindsListed (n m i count : ℕ) (list : List StepRecord) : Type 0 where
  pub few : count ≤ 18 * i
  pub counted : count ≡ length (for_each (take i seven_kinds) (λ a. steps_in (ranges n m a)))
  pub listed : take count list ≡ for_each (take i seven_kinds) (λ a. steps_in (ranges n m a))

pub no_kinds : (n m : ℕ) (list : List StepRecord) → KindsListed n m 0 0 list
unfolding for_each
no_kinds n m list = record { few = omega arith; counted = refl; listed = refl }

pub one_kind : {n m i count count' : ℕ} {list list' : List StepRecord} → KindsListed n m i count list → i < 7 → n ≤ 3 → m ≤ 2 → (a : Action) → a ≡ get_or seven_kinds i Release
    → count' ≡ count + range_size (ranges n m a) → take count' list' ≡ take count list ++ steps_in (ranges n m a) → KindsListed n m (i + 1) count' list'
unfolding for_each
one_kind {n} {m} {i} {count} {count'} {list} {list'} k l p q a e c s =
    let f : Action → List StepRecord = λ x. steps_in (ranges n m x) in
    let more : for_each (take (i + 1) seven_kinds) f ≡ for_each (take i seven_kinds) f ++ f a =
    ap (flat_map f) (take_more seven_kinds i Release l ∙ ap (λ (x : Action). take i seven_kinds ++ x ∷ []) (sym e)) ∙ sym (flat_map_more f [] (take i seven_kinds) a) in
    record {
      few = omega (arith, k.few, c, few_steps (ranges n m a) (ranges_small n m a p q));
      counted = omega (arith, k.counted, c, ap length more, length-append (for_each (take i seven_kinds) f) (f a), steps_in_length (ranges n m a));
      listed = s ∙ ap (λ (rs : List StepRecord). rs ++ f a) k.listed ∙ sym more;
    }

pub all_kinds : {n m i count : ℕ} {list : List StepRecord} → KindsListed n m i count list → i ≡ 7 → (count ≡ length (choices n m)) × (take count list ≡ choices n m)
unfolding choices
all_kinds {n} {m} k e =
    let all = ap (λ (j : ℕ). for_each (take j seven_kinds) (λ a. steps_in (ranges n m a))) e in (k.counted ∙ ap length all, k.listed ∙ all)
