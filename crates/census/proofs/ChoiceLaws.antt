-- The choices: their number, and that they are the records in range, each once.
use mathlib.Core.Path.{◌≡◌, refl, sym, ap, subst, ◌∙◌}
use mathlib.Core.Bool.{Bool, true, false, ◌&&◌}
use mathlib.Core.Logic.{◌↔◌}
use mathlib.Core.List.{List, [], ◌∷◌}
use Prim.Native.Nat.{ℕ, zero, suc, ◌+◌, ◌*◌, ◌≤◌, ◌<◌}
use native.Mathlib.Omega.{arith}
use lib.Dec.{eqb, ltb}
use borrow.Author.Tests.{eqb-true, eqb-false, not-true, not-false, lt-ltb, le-ltb, ne_eqb}
use Rattle.std.specs.List.{range_with_len}
use Rattle.std.specs.Prelude.{Ok, Err}
use Rattle.rules.specs.Facts.{Fact, below, Claims, tests, sum_of, one_if}
use Rattle.rules.specs.Actions.{action_of, kind_of}
use Rattle.rules.specs.Letters.{letters, place_checks, values_of, used_fields, used}
use Rattle.rules.specs.declared.StepRecord.{StepRecord}
use Rattle.rules.specs.declared.Action.{Action}
use Rattle.rules.proofs.FactLaws.{true_not_false, by_test, true_or_not, claims, claims_tested, asked, judge_passed}
use Rattle.rules.proofs.JudgeLaws.{answer_claims}
use Rattle.rules.proofs.LetterLaws.{record_kind}
use Rattle.census.specs.Choices.{seven_kinds, ranges, range_size, for_each, steps_in, choices}
use Rattle.rules.specs.Busy.{how_many, some}
use Rattle.census.specs.Claims.{ChoicesNumber, InRange, same_step, times, ChoicesExact}
use Rattle.census.proofs.ForEachLaws.{sum_parts, length_sum}
use Rattle.census.proofs.choices.RangeLaws.{steps_in_length}

-- ---- their number: those of one kind are the product of its ranges
pub choices_number : ChoicesNumber
unfolding ChoicesNumber choices sum_of
choices_number n m =
    length_sum (choices n m)
    ∙ sum_parts (λ q. 1) (λ a. range_size (ranges n m a)) seven_kinds (λ a. steps_in (ranges n m a)) (λ a. sym (length_sum (steps_in (ranges n m a))) ∙ steps_in_length (ranges n m a))
    ∙ omega arith

-- ---- a number among numbers in a row: not there if it lies before them, else once if it lies below their end
number_before : (w y i k : ℕ) → y < i → sum_of (λ j x. one_if (eqb y x) * w) (range_with_len i k) ≡ 0
unfolding sum_of
number_before w y i zero l = refl
number_before w y i (suc k) l = rw (ne_eqb y i (λ e. omega arith)) (omega (arith, number_before w y (i + 1) k (omega arith)))

number_once : (w y i k end : ℕ) → i + k ≡ end → i ≤ y → sum_of (λ j x. one_if (eqb y x) * w) (range_with_len i k) ≡ one_if (ltb y end) * w
unfolding sum_of
number_once w y i zero end e l = rw (le-ltb y end (omega arith)) (omega arith)
number_once w y i (suc k) end e l =
    let others : ℕ = sum_of (λ j x. one_if (eqb y x) * w) (range_with_len (i + 1) k) in
    by_test (λ t. one_if t * w + others ≡ one_if (ltb y end) * w) (eqb y i)
    (λ q. let s : y ≡ i = eqb-true y i q in rw (lt-ltb y end (omega arith)) (omega (arith, number_before w y (i + 1) k (omega arith))))
    (λ q. omega (arith, number_once w y (i + 1) k end (omega arith) (omega (arith, eqb-false y i q))))

-- ---- a record among the steps of one kind: once if the kind is its own and each of its fields lies below its range
abbrev range_row : StepRecord → StepRecord → List Fact
range_row r c = below r.unit c.unit ∷ below r.other c.other ∷ below r.slot c.slot ∷ []

one_both : (s t : Bool) → one_if (s && t) ≡ one_if s * one_if t
one_both true t = omega arith
one_both false t = omega arith

-- a list for each number, w such elements in the one for y and none in the others
many_once : {B : Type 0} (is : B → Bool) (f : ℕ → List B) (y k w : ℕ) → ((x : ℕ) → how_many is (f x) ≡ one_if (eqb y x) * w) → how_many is (for_each (range_with_len 0 k) f) ≡ one_if (ltb y k) * w
unfolding how_many
many_once is f y k w e = sum_parts (λ z. one_if (is z)) (λ x. one_if (eqb y x) * w) (range_with_len 0 k) f e ∙ number_once w y 0 k k (omega arith) (omega arith)

-- slots within other units within units
times_in : (r c : StepRecord) → times r (steps_in c) ≡ one_if (eqb r.kind c.kind) * one_if (tests (range_row r c))
unfolding steps_in how_many sum_of
times_in r c =
    many_once (same_step r) _ r.unit c.unit (kind * (one_if (ltb r.other c.other) * one_if (ltb r.slot c.slot))) (λ u.
    many_once (same_step r) _ r.other c.other (kind * (one_if (eqb r.unit u) * one_if (ltb r.slot c.slot))) (λ v.
    many_once (same_step r) _ r.slot c.slot (kind * (one_if (eqb r.unit u) * one_if (eqb r.other v))) (λ s. simp one_both (omega arith))
    ∙ omega arith)
    ∙ omega arith)
    ∙ simp one_both (omega arith)
  where
    kind : ℕ
    kind = one_if (eqb r.kind c.kind)

-- ---- a number among the kinds of a list: what holds of each of them holds of it
abbrev All : {A : Type 0} → (A → Type 0) → List A → Type 0
All P [] = Unit {0}
All P (x ∷ xs) = P x × All P xs

listed : (P : ℕ → Type 0) (k : ℕ) (ks : List Action) → All (λ a. P (kind_of a)) ks → (how_many (λ a. eqb k (kind_of a)) ks ≡ 0 → ⊥) → P k
unfolding how_many sum_of
listed P k [] p n = absurd (n refl)
listed P k (a ∷ ks) p n =
    true_or_not (eqb k (kind_of a)) (λ e. subst P (sym (eqb-true k (kind_of a) e)) p.0) (λ e. listed P k ks p.1 (λ z. n (rw e (omega arith))))

-- and where it is not among them, a sum over those that it is has no part
unlisted : {A : Type 0} (is : A → Bool) (g : A → ℕ) (xs : List A) → how_many is xs ≡ 0 → sum_of (λ i x. one_if (is x) * g x) xs ≡ 0
unfolding how_many sum_of
unlisted is g [] z = refl
unlisted is g (x ∷ xs) z = let o : one_if (is x) ≡ 0 = omega arith in rw o (omega (arith, unlisted is g xs (omega arith)))

-- ---- a record among the choices
module _ (n m : ℕ) (r : StepRecord) where
  abbrev is_listed : Bool
  is_listed = some (λ a. eqb r.kind (kind_of a)) seven_kinds

  abbrev row_of : Action → List Fact
  row_of a = range_row r (ranges n m a)

  -- how often it stands there, were its kind k
  abbrev times_as : ℕ → ℕ
  times_as k = sum_of (λ i a. one_if (eqb k (kind_of a)) * one_if (tests (row_of a))) seven_kinds

  times_choices : times r (choices n m) ≡ times_as r.kind
  unfolding choices how_many sum_of
  times_choices =
      sum_parts (λ q. one_if (same_step r q)) (λ a. one_if (eqb r.kind (ranges n m a).kind) * one_if (tests (row_of a))) seven_kinds (λ a. steps_in (ranges n m a)) (λ a. times_in r (ranges n m a))

  -- in range, by numbers: its letters lie where they must, its other fields are 0
  abbrev Placed : Action → Type 0
  Placed a = Claims (asked (place_checks n m r a)) × ((used_fields r a).unit ≡ r.unit) × ((used_fields r a).other ≡ r.other) × ((used_fields r a).slot ≡ r.slot)

  placed : InRange n m r → Placed (action_of r.kind)
  unfolding used
  placed h = (
    answer_claims (place_checks n m r (action_of r.kind)) h.places,
    ap (λ (q : StepRecord). q.unit) h.unused,
    ap (λ (q : StepRecord). q.other) h.unused,
    ap (λ (q : StepRecord). q.slot) h.unused,
  )

  in_range : is_listed ≡ true → Placed (action_of r.kind) → InRange n m r
  unfolding used
  in_range e p =
      let ls = letters (action_of r.kind) in
      record {
        kind = e;
        places = judge_passed Err (place_checks n m r (action_of r.kind)) (Ok tt) p.0;
        unused = λ i. record { kind = record_kind r.kind 0 ls (values_of r ls) i; unit = p.1 i; other = p.2 i; slot = p.3 i };
      }

  -- each of the seven kinds has a number of its own, and ranges that are what its letters ask for
  abbrev Told : ℕ → Type 0
  Told k = (times_as k ≡ one_if (tests (row_of (action_of k)))) × (Placed (action_of k) ↔ Claims (row_of (action_of k)))

  seven_told : All (λ a. Told (kind_of a)) seven_kinds
  unfolding sum_of
  seven_told = (omega arith, (omega arith, (omega arith, (omega arith, (omega arith, (omega arith, (omega arith, tt)))))))

  exact_by : (t : Bool) → is_listed ≡ t → (InRange n m r → times r (choices n m) ≡ 1) × ((InRange n m r → ⊥) → times r (choices n m) ≡ 0)
  exact_by true e =
      let told : Told r.kind = listed Told r.kind seven_kinds seven_told (eqb-false _ 0 (not-true _ e)) in (
        λ h. times_choices ∙ told.0 ∙ ap one_if (claims_tested (row_of (action_of r.kind)) (told.1.0 (placed h))),
        λ no. times_choices ∙ told.0 ∙ ap one_if (true_or_not (tests (row_of (action_of r.kind))) (λ q. absurd (no (in_range e (told.1.1 (claims (row_of (action_of r.kind)) q))))) (λ q. q)),
      )
  exact_by false e = (
    λ h. absurd (true_not_false (sym h.kind ∙ e)),
    λ no. times_choices ∙ unlisted (λ a. eqb r.kind (kind_of a)) (λ a. one_if (tests (row_of a))) seven_kinds (eqb-true _ 0 (not-false _ e)),
  )

pub choices_exact : ChoicesExact
unfolding ChoicesExact
choices_exact n m r = exact_by n m r (is_listed n m r) refl
