-- Lists of events: what each event keeps, a list keeps; an account of each event is an account of the list; two lists one after the
-- other; two kinds of events that agree.
use mathlib.Core.Path.{◌≡◌, refl, ap, ◌∙◌}
use mathlib.Core.Bool.{cond}
use mathlib.Core.List.{List, [], ◌∷◌, ◌++◌}
use Prim.Native.Nat.{ℕ, ◌+◌, ◌*◌}
use native.Mathlib.Omega.{arith}
use borrow.Author.Tests.{eqb-true, eqb-false}
use Rattle.rules.specs.Events.{Events, after_all, all_answers, accepts, tally_all}
use Rattle.rules.proofs.FactLaws.{by_test, true_or_not}

module _ {S E : Type 0} (ev : Events S E) where
  -- an event is accepted, or it is refused
  pub accepted_or_not : {X : Type 0} (s : S) (e : E) → (ev.answer s e ≡ 0 → X) → ((ev.answer s e ≡ 0 → ⊥) → X) → X
  accepted_or_not s e f g = true_or_not (accepts ev s e) (λ q. f (eqb-true (ev.answer s e) 0 q)) (λ q. g (eqb-false (ev.answer s e) 0 q))

  pub after_append : (s : S) (qs es : List E) → after_all ev s (qs ++ es) ≡ after_all ev (after_all ev s qs) es
  unfolding after_all
  after_append s [] es = refl
  after_append s (q ∷ qs) es = after_append (ev.next s q) qs es

  module _ (P : S → Type 0) (keeps : (s : S) (e : E) → P s → P (ev.next s e)) where
    pub list_keeps : (s : S) (es : List E) → P s → P (after_all ev s es)
    unfolding after_all
    list_keeps s [] p = p
    list_keeps s (e ∷ es) p = list_keeps (ev.next s e) es (keeps s e p)

    -- what a state owes: each accepted event lowers it by `out` and raises it by so many grants, a refused one leaves it
    module _ (owed : S → ℕ) (grant : ℕ) (out starts grants : S → E → ℕ)
        (accepted : (s : S) (e : E) → P s → ev.answer s e ≡ 0 → owed (ev.next s e) + out s e ≡ owed s + grant * (starts s e + grants s e))
        (refused : (s : S) (e : E) → P s → (ev.answer s e ≡ 0 → ⊥) → owed (ev.next s e) ≡ owed s) where
      pub list_account : (s : S) (es : List E) → P s → owed (after_all ev s es) + tally_all ev out s es ≡ owed s + grant * (tally_all ev starts s es + tally_all ev grants s es)
      unfolding after_all tally_all
      list_account s [] p = omega arith
      list_account s (e ∷ es) p =
          let rest = list_account (ev.next s e) es (keeps s e p) in
          by_test (λ t. owed (after_all ev (ev.next s e) es) + (cond t (out s e) 0 + tally_all ev out (ev.next s e) es)
          ≡ owed s + grant * ((cond t (starts s e) 0 + tally_all ev starts (ev.next s e) es) + (cond t (grants s e) 0 + tally_all ev grants (ev.next s e) es))) (accepts ev s e)
          (λ q. omega (arith, rest, accepted s e p (eqb-true (ev.answer s e) 0 q))) (λ q. omega (arith, rest, refused s e p (eqb-false (ev.answer s e) 0 q)))

-- two kinds of events that agree on the states that the first keeps: a list of either is a list of the other
module _ {S E : Type 0} (ev fv : Events S E) (P : S → Type 0) (keeps : (s : S) (e : E) → P s → P (ev.next s e)) (same_next : (s : S) (e : E) → P s → ev.next s e ≡ fv.next s e) where
  pub same_after : (s : S) (es : List E) → P s → after_all ev s es ≡ after_all fv s es
  unfolding after_all
  same_after s [] p = refl
  same_after s (e ∷ es) p = same_after (ev.next s e) es (keeps s e p) ∙ ap (λ (t : S). after_all fv t es) (same_next s e p)

  pub same_answers : ((s : S) (e : E) → P s → ev.answer s e ≡ fv.answer s e) → (s : S) (es : List E) → P s → all_answers ev s es ≡ all_answers fv s es
  unfolding all_answers
  same_answers same s [] p = refl
  same_answers same s (e ∷ es) p =
      ap (λ (ks : List ℕ). ev.answer s e ∷ ks) (same_answers same (ev.next s e) es (keeps s e p))
      ∙ ap (λ (k : ℕ). k ∷ all_answers fv (ev.next s e) es) (same s e p) ∙ ap (λ (t : S). fv.answer s e ∷ all_answers fv t es) (same_next s e p)
