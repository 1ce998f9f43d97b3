-- Two events in either order, of any states and events: what a state holds stands at places or is its ground, and an event reads and
-- writes at the places that it touches. Then two that touch nothing in common and leave the ground do the same in either order.
use mathlib.Core.Path.{◌≡◌, sym, ◌∙◌}
use mathlib.Core.Bool.{Bool, true, false}
use Rattle.rules.specs.Events.{Events}
use Rattle.rules.proofs.FactLaws.{true_or_not}

module _ {S E P G : Type 0} {Entry : P → Type 0} (ev : Events S E) (ground : S → G) (entry : S → (p : P) → Entry p) (touches : S → E → P → Bool) where
  -- accepted, and the ground is left
  abbrev pub Calm : S → E → Type 0
  Calm s e = (ev.answer s e ≡ 0) × (ground (ev.next s e) ≡ ground s)

  -- t is as s in all that e may read on s
  pub record Agrees (s t : S) (e : E) : Type 0 where
    pub grounds : ground t ≡ ground s
    pub entries : (p : P) → touches s e p ≡ true → entry t p ≡ entry s p

  -- e does on t what it does on s
  pub record Follows (s t : S) (e : E) : Type 0 where
    pub accepted : ev.answer t e ≡ 0
    pub grounds : ground (ev.next t e) ≡ ground (ev.next s e)
    pub entries : (p : P) → touches s e p ≡ true → entry (ev.next t e) p ≡ entry (ev.next s e) p

  -- what is to be shown of states and events
  pub record Local (Good : S → Type 0) : Type 0 where
    -- an event keeps a state good
    pub keeps : (s : S) (e : E) → Good s → Good (ev.next s e)
    -- places that it does not touch are left
    pub writes : (s : S) (e : E) → Good s → Calm s e → (p : P) → touches s e p ≡ false → entry (ev.next s e) p ≡ entry s p
    -- what it touches is read where it touches
    pub touches_same : (s t : S) (e : E) → Agrees s t e → (p : P) → touches t e p ≡ touches s e p
    pub reads : (s t : S) (e : E) → Good s → Good t → Calm s e → Agrees s t e → Follows s t e
    -- ground and places are all of a state
    pub whole : (s t : S) → Good s → Good t → ground s ≡ ground t → ((p : P) → entry s p ≡ entry t p) → s ≡ t

  module _ (Good : S → Type 0) (local : Local Good) (s : S) (q r : E) (good : Good s) (first : Calm s q) (second : Calm (ev.next s q) r)
      (separate : (p : P) → touches s q p ≡ true → touches s r p ≡ true → ⊥) where
    -- q alone, r alone, each after the other
    abbrev t : S
    t = ev.next s q

    abbrev u : S
    u = ev.next s r

    abbrev tr : S
    tr = ev.next t r

    abbrev uq : S
    uq = ev.next u q

    -- q leaves what r touches
    past_q : Agrees s t r
    past_q = record {
      grounds = first.1;
      entries = λ p e. local.writes s q good first p (true_or_not (touches s q p) (λ f. absurd (separate p f e)) (λ f. f));
    }

    back : Agrees t s r
    back = record { grounds = sym past_q.grounds; entries = λ p e. sym (past_q.entries p (sym (local.touches_same s t r past_q p) ∙ e)) }

    alone : Follows t s r
    alone = local.reads t s r (local.keeps s q good) good second back

    pub calm_alone : Calm s r
    calm_alone = (alone.accepted, alone.grounds ∙ second.1 ∙ first.1)

    -- and r leaves what q touches
    past_r : Agrees s u q
    past_r = record {
      grounds = calm_alone.1;
      entries = λ p e. local.writes s r good calm_alone p (true_or_not (touches s r p) (λ f. absurd (separate p e f)) (λ f. f));
    }

    then_q : Follows s u q
    then_q = local.reads s u q good (local.keeps s r good) first past_r

    pub calm_then : Calm u q
    calm_then = (then_q.accepted, then_q.grounds ∙ first.1 ∙ sym calm_alone.1)

    -- a place that r does not touch, in the order given
    left_by_r : (p : P) → touches s r p ≡ false → entry t p ≡ entry tr p
    left_by_r p e = sym (local.writes t r (local.keeps s q good) second p (local.touches_same s t r past_q p ∙ e))

    same_entry : (p : P) → entry uq p ≡ entry tr p
    same_entry p =
        true_or_not (touches s q p) (λ e. true_or_not (touches s r p) (λ f. absurd (separate p e f)) (λ f. then_q.entries p e ∙ left_by_r p f))
        (λ e.
        true_or_not (touches s r p) (λ f. left_by_q e ∙ alone.entries p (local.touches_same s t r past_q p ∙ f))
        (λ f. left_by_q e ∙ local.writes s r good calm_alone p f ∙ sym (local.writes s q good first p e) ∙ left_by_r p f))
      where
        left_by_q : touches s q p ≡ false → entry uq p ≡ entry u p
        left_by_q e = local.writes u q (local.keeps s r good) calm_then p (local.touches_same s u q past_r p ∙ e)

    pub same_end : uq ≡ tr
    same_end =
        local.whole uq tr (local.keeps u q (local.keeps s r good)) (local.keeps t r (local.keeps s q good)) (then_q.grounds ∙ sym second.1) same_entry
