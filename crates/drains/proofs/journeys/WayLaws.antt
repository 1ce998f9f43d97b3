-- A journey on its way to unit 0.
use mathlib.Core.Path.{◌≡◌, refl, sym, ap, subst, ◌∙◌}
use mathlib.Core.List.{List, [], ◌∷◌, ◌++◌, append_assoc, append-nil}
use Prim.Native.Nat.{ℕ, ◌+◌, ◌≤◌, ◌<◌}
use native.Mathlib.Omega.{arith}
use lib.ListN.{length, get_or, replicate, length-append, length-replicate}
use Rattle.rules.specs.Sheets.Drains.{tick_of, release_of, deliver_of}
use Rattle.rules.specs.Sheets.Longest.{journey, journey_within}
use Rattle.rules.specs.declared.StepRecord.{StepRecord}
use Rattle.rules.proofs.Sheets.JourneyLaws.{journey_on}
use Rattle.drains.specs.Writing.{Writes}
use Rattle.drains.proofs.journeys.WritingLaws.{writes_none, writes_then}

-- ---- a journey on its way: some of its steps are written, and those from a unit on are left
module _ (d : ℕ) (ps : List ℕ) (s : ℕ) where
  abbrev wait_steps : ℕ → ℕ → List StepRecord
  wait_steps k u = replicate k (tick_of u) ++ release_of u s ∷ deliver_of s ∷ []

  pub record OnWay (k₀ u₀ at₀ : ℕ) (list₀ : List StepRecord) (k u at : ℕ) (list : List StepRecord) : Type 0 where
    pub within : u < 64
    pub taken : List StepRecord
    pub writes : Writes taken at₀ list₀ list at
    pub left : taken ++ journey d ps s k u ≡ journey d ps s k₀ u₀

  module _ (lower : (i : ℕ) → 1 ≤ i → i < 64 → get_or ps i 0 < i) {k₀ u₀ at₀ k u at : ℕ} {list₀ list : List StepRecord} (w : OnWay k₀ u₀ at₀ list₀ k u at list) where
    waits : 1 ≤ u → wait_steps k u ++ journey d ps s d (get_or ps u 0) ≡ journey d ps s k u
    waits p = append_assoc (replicate k (tick_of u)) (release_of u s ∷ deliver_of s ∷ []) (journey d ps s d (get_or ps u 0)) ∙ sym (journey_on d ps s k u p (λ i a b. lower i a (omega (arith, b, w.within))))

    pub wait_room : 1 ≤ u → at₀ + length (journey d ps s k₀ u₀) ≤ length list₀ → at + k + 2 ≤ length list₀
    wait_room p r = omega (
      arith,
      r,
      ap length w.left,
      length-append w.taken (journey d ps s k u),
      w.writes.ends,
      ap length (waits p),
      length-append (wait_steps k u) (journey d ps s d (get_or ps u 0)),
      length-append (replicate k (tick_of u)) (release_of u s ∷ deliver_of s ∷ []),
      length-replicate k (tick_of u),
    )

    pub wait_on : 1 ≤ u → {end : ℕ} {between : List StepRecord} → Writes (wait_steps k u) at list between end → OnWay k₀ u₀ at₀ list₀ d (get_or ps u 0) end between
    wait_on p v = record {
      within = omega (arith, lower u p w.within, w.within);
      taken = w.taken ++ wait_steps k u;
      writes = writes_then w.writes v;
      left = append_assoc w.taken (wait_steps k u) _ ∙ ap (λ (rs : List StepRecord). w.taken ++ rs) (waits p) ∙ w.left;
    }

  pub way_ends : {k₀ u₀ at₀ k u at : ℕ} {list₀ list : List StepRecord} → OnWay k₀ u₀ at₀ list₀ k u at list → u ≡ 0 → Writes (journey d ps s k₀ u₀) at₀ list₀ list at
  unfolding journey journey_within
  way_ends {k₀} {u₀} {at₀} {k} {u} {at} {list₀} {list} w z =
      let home : journey d ps s k u ≡ [] = ap (journey d ps s k) z in
      subst (λ (rs : List StepRecord). Writes rs at₀ list₀ list at) (sym (append-nil w.taken) ∙ ap (λ (rs : List StepRecord). w.taken ++ rs) (sym home) ∙ w.left) w.writes

  pub way_begins : (k u at : ℕ) (list : List StepRecord) → u < 64 → OnWay k u at list k u at list
  way_begins k u at list l = record { within = l; taken = []; writes = writes_none at list; left = refl }
