-- The counting rounds (M-105), over any states that they can look at and any events: what quiet says, and when the verdict is quiet.
use mathlib.Core.Path.{◌≡◌, refl, sym, ap, subst, ◌∙◌}
use mathlib.Core.Bool.{true, cond}
use mathlib.Core.List.{List, [], ◌∷◌, ◌++◌, append_assoc, append-nil}
use Prim.Native.Nat.{ℕ, zero, suc, ◌≤◌}
use native.Mathlib.Omega.{arith}
use lib.ListN.{length, take}
use lib.Seq.{take-nil, take-length, append_snoc}
use borrow.Author.Tests.{eq-eqb}
use Rattle.std.specs.Prelude.{Option, Some, None}
use Rattle.rules.specs.Facts.{Claims}
use Rattle.rules.specs.Events.{Events, after_all, accepts, tally_all}
use Rattle.rules.specs.Rounds.{Seen, is_open, unmarked, no_round, begun, visit_checks, tallied, left_of, rounds_after, found}
use Rattle.rules.proofs.FactLaws.{true_not_false, asked}
use Rattle.rules.proofs.EventLaws.{after_append, list_keeps}
use Rattle.rules.proofs.MarkLaws.{both_sums, none_marked, unmarked_grows}
use Rattle.rules.proofs.RoundTotals.{left_by, Look, Still, Fair, Stepped, Unseen, still_unseen, itself, still_stays, RoundCounted, counted_begun, counted_step, level, Exact, less, counted_visit, counted_all, exact_visit, quiet_level, exact_quiet}
use Rattle.rules.specs.Records.{Round, One, Two, Rounds, AllQuiet, Unsettled}

module _ {S E : Type 0} (ev : Events S E) (look : S → Look) (visits : ℕ → E) (starts : S → E → ℕ) where
  -- what an event does: it is refused, or an accepted step, an accepted start, a beginning, an accepted visit
  pub data Happened (s : S) (e : E) (t : S) : Type 0 where
    refused : t ≡ s → Happened s e t
    stepped : Stepped (look s) (look t) → Happened s e t
    started : ev.answer s e ≡ 0 → starts s e ≡ 1 → (look t).rounds ≡ no_round → Happened s e t
    began : (look t).rounds ≡ begun → Unseen (look s) (look t) → Happened s e t
    visited : (u : ℕ) → e ≡ visits u → Claims (asked (visit_checks (look s).seen (look s).rounds u)) → (look t).rounds ≡ rounds_after (look s).seen (look s).rounds u → Unseen (look s) (look t) → Happened s e t

  -- round two opened by the visit of `last` behind `before`, and since then it was open and all was still
  pub record StillSince (f : S) (es : List E) : Type 0 where
    pub before : List E
    pub last : ℕ
    pub since : List E
    pub whole : es ≡ before ++ visits last ∷ since
    pub round_one : (look (after_all ev f before)).rounds.round ≡ Some One
    pub round_two : (k : ℕ) → (look (after_all ev f (before ++ visits last ∷ take k since))).rounds.round ≡ Some Two
    pub still : (k : ℕ) → Still (look (after_all ev f (before ++ visits last ∷ take k since)))

  -- ---- lists, one event longer: the event meets the state that the list left
  after_one : (f : S) (es : List E) (e : E) → after_all ev f (es ++ e ∷ []) ≡ ev.next (after_all ev f es) e
  unfolding after_all
  after_one f es e = after_append ev f es (e ∷ [])

  -- the front parts of a longer list are those of the list, and itself
  parts_longer : (P : List E → Type 0) (es : List E) (e : E) → ((k : ℕ) → P (take k es)) → P (es ++ e ∷ []) → (k : ℕ) → P (take k (es ++ e ∷ []))
  parts_longer P es e old new zero = old 0
  parts_longer P [] e old new (suc k) = subst (λ (ys : List E). P (e ∷ ys)) (sym (take-nil k)) new
  parts_longer P (x ∷ es) e old new (suc k) = parts_longer (λ ys. P (x ∷ ys)) es e (λ j. old (suc j)) new k

  -- ---- still since round two opened
  -- the present state is the last of them
  pub now_still : {f : S} {es : List E} → StillSince f es → Still (look (after_all ev f es))
  now_still {f} {es} h = subst (λ (ys : List E). Still (look (after_all ev f ys))) (ap (λ (ys : List E). h.before ++ visits h.last ∷ ys) (take-length h.since) ∙ sym h.whole) (h.still (length h.since))

  module _ (f : S) (es : List E) (e : E) (two : (look (ev.next (after_all ev f es) e)).rounds.round ≡ Some Two) (calm : Still (look (ev.next (after_all ev f es) e))) where
    abbrev Holds : List E → Type 0
    Holds ys = ((look (after_all ev f ys)).rounds.round ≡ Some Two) × Still (look (after_all ev f ys))

    -- the list with one event more, however it is cut
    at_end : (ys : List E) → es ++ e ∷ [] ≡ ys → Holds ys
    at_end ys q = subst Holds q (rw (after_one f es e) (two, calm))

    -- the visit that opens round two
    opened : (u : ℕ) → e ≡ visits u → (look (after_all ev f es)).rounds.round ≡ Some One → StillSince f (es ++ e ∷ [])
    opened u q one = record { before = es; last = u; since = []; whole = longer; round_one = one; round_two = λ k. (all k).0; still = λ k. (all k).1 }
      where
        longer : es ++ e ∷ [] ≡ es ++ visits u ∷ []
        longer = ap (λ (x : E). es ++ x ∷ []) q

        all : (k : ℕ) → Holds (es ++ visits u ∷ take k [])
        all k = at_end (es ++ visits u ∷ take k []) (longer ∙ ap (λ (ys : List E). es ++ visits u ∷ ys) (sym (take-nil k)))

    -- any other event that leaves round two open
    extended : StillSince f es → StillSince f (es ++ e ∷ [])
    extended h = record { before = h.before; last = h.last; since = h.since ++ e ∷ []; whole = longer; round_one = h.round_one; round_two = λ k. (all k).0; still = λ k. (all k).1 }
      where
        longer : es ++ e ∷ [] ≡ h.before ++ visits h.last ∷ (h.since ++ e ∷ [])
        longer = ap (λ (ys : List E). ys ++ e ∷ []) h.whole ∙ append_assoc h.before (visits h.last ∷ h.since) (e ∷ [])

        all : (k : ℕ) → Holds (h.before ++ visits h.last ∷ take k (h.since ++ e ∷ []))
        all = parts_longer (λ ys. Holds (h.before ++ visits h.last ∷ ys)) h.since e (λ k. (h.round_two k, h.still k)) (at_end _ longer)

  -- ---- 1: what is known behind a list, by the round that is open
  abbrev KnownAs : S → List E → Seen → Rounds → Option Round → Type 0
  KnownAs f es v k None = Unit {0}
  KnownAs f es v k (Some One) = RoundCounted v k
  KnownAs f es v k (Some Two) = level v k ≤ k.processed → StillSince f es

  abbrev Known : S → List E → Type 0
  Known f es = KnownAs f es (look (after_all ev f es)).seen (look (after_all ev f es)).rounds (look (after_all ev f es)).rounds.round

  module _ (f : S) (es : List E) (e : E) where
    abbrev here : S
    here = after_all ev f es

    abbrev there : S
    there = ev.next here e

    -- what is known of the state behind one event more, by what that event leaves
    known_by : (v : Seen) (k : Rounds) → (look there).seen ≡ v → (look there).rounds ≡ k → KnownAs f (es ++ e ∷ []) v k k.round → Known f (es ++ e ∷ [])
    known_by v k p q h = rw (after_one f es e, p, q) h

    -- a step: the level grows, and from a still state it is unseen
    step_known : Fair (look here) → Fair (look there) → Stepped (look here) (look there) → (r : Option Round) → (look here).rounds.round ≡ r
        → KnownAs f es (look here).seen (look here).rounds r → KnownAs f (es ++ e ∷ []) (look there).seen (look here).rounds r
    step_known fs ft p None q h = tt
    step_known fs ft p (Some One) q h = counted_step (look here) (look there) (look here).rounds p h
    step_known fs ft p (Some Two) q h = λ l.
        let since = h (omega (arith, unmarked_grows (look here).seen.created (look there).seen.created (look here).rounds.visited p.created_grows)) in
        extended f es e (ap (λ (k : Rounds). k.round) p.same_rounds ∙ q) (still_unseen (now_still since) (still_stays (look here) (look there) p fs ft (now_still since))) since

    module _ (u : ℕ) (same : e ≡ visits u) (fs : Fair (look here)) (c : Claims (asked (visit_checks (look here).seen (look here).rounds u))) (w : Unseen (look here) (look there)) where
      abbrev Left : Rounds → Type 0
      Left k = (look there).rounds.round ≡ k.round → KnownAs f (es ++ e ∷ []) (look here).seen k k.round

      -- a visit: the level stays, and the last visit of round one opens round two
      visit_known : (r : Option Round) → (look here).rounds.round ≡ r → is_open r ≡ true → KnownAs f es (look here).seen (look here).rounds r
          → Left (left_of (look here).seen.n (tallied (look here).seen (look here).rounds u r))
      visit_known None q o h = absurd (true_not_false (sym o))
      visit_known (Some One) q o h =
          let now = counted_visit (look here) u fs c h in
          left_by Left (look here).seen.n (tallied (look here).seen (look here).rounds u (Some One))
          (λ all two l. opened f es e two (still_unseen (counted_all (look here) u fs c now all (omega (arith, both_sums (look here).seen.created unmarked, none_marked (look here).seen.created))) w) u same q)
          (λ one. now)
      visit_known (Some Two) q o h =
          left_by Left (look here).seen.n (tallied (look here).seen (look here).rounds u (Some Two)) (λ all none. tt)
          (λ two l. let since = h (omega (arith, less (look here) u fs c (look here).seen.created)) in extended f es e two (still_unseen (now_still since) w) since)

    -- a refused event is a step; a start ends the rounds, a beginning opens round one
    known_next : Fair (look here) → Fair (look there) → Known f es → Happened here e there → Known f (es ++ e ∷ [])
    unfolding rounds_after
    known_next fs ft h (refused q) = known_by _ _ refl (ap (λ (s : S). (look s).rounds) q) (step_known fs ft (subst (λ (s : S). Stepped (look here) (look s)) (sym q) (itself (look here))) _ refl h)
    known_next fs ft h (stepped p) = known_by _ _ refl p.same_rounds (step_known fs ft p _ refl h)
    known_next fs ft h (started a b q) = known_by _ no_round refl q tt
    known_next fs ft h (began q w) = known_by _ begun refl q (counted_begun _)
    known_next fs ft h (visited u q c k w) = known_by _ _ w.same_seen k (visit_known u q fs c w _ refl c.1.0 h (ap (λ (x : Rounds). x.round) k))

  -- ---- 2: what is kept since a beginning in a still state
  record Settled (s : S) : Type 0 where
    pub calm : Still (look s)
    pub exact : Exact (look s).seen (look s).rounds (look s).rounds.round

  module _ (s t : S) (h : Settled s) where
    -- what was still stays so where the event is unseen
    settled_by : (k : Rounds) → Unseen (look s) (look t) → (look t).rounds ≡ k → Exact (look s).seen k k.round → Settled t
    settled_by k w q x = record { calm = still_unseen h.calm w; exact = rw (w.same_seen, q) x }

    -- every event but a start is unseen from a still state
    settled_next : (e : E) → Fair (look s) → Fair (look t) → Happened s e t → cond (accepts ev s e) (starts s e) 0 ≡ 0 → Settled t
    unfolding rounds_after
    settled_next e fs ft (refused q) n = subst Settled (sym q) h
    settled_next e fs ft (stepped p) n = settled_by (look s).rounds (still_stays (look s) (look t) p fs ft h.calm) p.same_rounds h.exact
    settled_next e fs ft (started a b q) n = absurd (omega (arith, rw (eq-eqb (ev.answer s e) 0 a) at n))
    settled_next e fs ft (began q w) n = settled_by begun w q (sym (none_marked (look s).seen.processed))
    settled_next e fs ft (visited u q c k w) n = settled_by _ w k (exact_visit (look s) u fs c (look s).rounds.round c.1.0 h.exact)

  module _ (Good : S → Type 0) (keeps : (s : S) (e : E) → Good s → Good (ev.next s e)) (fair : (s : S) → Good s → Fair (look s))
      (happens : (s : S) (e : E) → Good s → Happened s e (ev.next s e)) where
    good_after : (f : S) (es : List E) → Good f → Good (after_all ev f es)
    good_after = list_keeps ev Good keeps

    -- the events of es one by one, behind qs
    known_list : (f : S) (qs es : List E) → Good f → Known f qs → Known f (qs ++ es)
    known_list f qs [] g h = subst (Known f) (sym (append-nil qs)) h
    known_list f qs (e ∷ es) g h =
        let now = good_after f qs g in
        subst (Known f) (append_snoc qs e es) (known_list f (qs ++ e ∷ []) es g (known_next f qs e (fair _ now) (fair _ (keeps _ e now)) h (happens _ e now)))

    settled_list : (s : S) (es : List E) → Good s → Settled s → tally_all ev starts s es ≡ 0 → Settled (after_all ev s es)
    unfolding after_all tally_all
    settled_list s [] g h n = h
    settled_list s (e ∷ es) g h n = settled_list (ev.next s e) es (keeps s e g) (settled_next s _ h e (fair s g) (fair _ (keeps s e g)) (happens s e g) (omega arith)) (omega arith)

    -- 1: where a visit answers quiet
    pub quiet_still : (f : S) (es : List E) (u : ℕ) → Good f → (look f).rounds ≡ no_round → Claims (asked (visit_checks (look (after_all ev f es)).seen (look (after_all ev f es)).rounds u))
        → found (look (after_all ev f es)).seen (look (after_all ev f es)).rounds u ≡ AllQuiet → StillSince f es
    unfolding after_all
    quiet_still f es u g e c q =
        let d = quiet_level (look (after_all ev f es)) u (fair _ (good_after f es g)) c q in
        subst (KnownAs f es _ _) d.0 (known_list f [] es g (rw e tt)) d.1

    -- 2: from a beginning that left a still state, with no accepted start since
    pub still_quiet : (f : S) (es : List E) (u : ℕ) → Good f → (look f).rounds ≡ begun → Still (look f) → tally_all ev starts f es ≡ 0
        → Claims (asked (visit_checks (look (after_all ev f es)).seen (look (after_all ev f es)).rounds u))
        → found (look (after_all ev f es)).seen (look (after_all ev f es)).rounds u ≡ Unsettled → ⊥
    still_quiet f es u g e h n c q =
        let now = settled_list f es g (record { calm = h; exact = rw e (sym (none_marked (look f).seen.processed)) }) n in
        exact_quiet (look (after_all ev f es)) u (fair _ (good_after f es g)) c now.calm now.exact q
