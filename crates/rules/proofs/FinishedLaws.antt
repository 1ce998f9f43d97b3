-- Finished is told exactly of the sound boards on which every unit is idle and every slot empty.
use mathlib.Core.Path.{◌≡◌, sym, ◌∙◌}
use mathlib.Core.Bool.{true, cond}
use mathlib.Core.Logic.{◌↔◌}
use Prim.Native.Nat.{ℕ}
use native.Mathlib.Omega.{arith}
use Rattle.std.specs.Prelude.{Ok, Err}
use Rattle.refusals.specs.declared.Refusal.TheVariants.{NotSound}
use Rattle.rules.specs.Boards.{view}
use Rattle.rules.specs.Sound.{Sound, sound}
use Rattle.rules.specs.Finished.{verdict, Complete}
use Rattle.rules.specs.Sheets.Finished.{told_from, verdict as sheet_verdict}
use Rattle.rules.proofs.FactLaws.{by_test}
use Rattle.rules.proofs.SoundLaws.{sound_claims, sound_tested}
use Rattle.rules.proofs.Sheets.FinishedLaws as of-sheets
use Rattle.rules.specs.Records.{Board, Finished}

-- the verdict on a sound board is told from the debt, as that on its sheet
pub verdict_sound : (b : Board) → Sound b → verdict b ≡ Ok (told_from b.debt)
unfolding verdict
verdict_sound b h = rw (sound_tested b h)

pub verdict_shown : (b : Board) → Sound b → verdict b ≡ sheet_verdict (view b)
verdict_shown b h = verdict_sound b h ∙ sym (of-sheets.verdict_sound (view b) h.sheet)

pub finished_complete : (b : Board) → Sound b → (verdict b ≡ Ok Finished) ↔ Complete b
finished_complete b h =
    let e : verdict b ≡ sheet_verdict (view b) = verdict_shown b h in
    let f = of-sheets.finished_complete (view b) h.sheet in
    (λ q. f.0 (sym e ∙ q), λ c. e ∙ f.1 c)

-- ---- of any board: one that is not sound is refused, so it is never finished
pub finished_sound : (b : Board) → verdict b ≡ Ok Finished → Sound b
unfolding verdict
finished_sound b e =
    by_test (λ t. cond t (Ok (told_from b.debt)) (Err NotSound) ≡ Ok Finished → Sound b) (sound b) (λ s q. sound_claims b s) (λ s q. absurd (let o : ◌≡◌ {A = ℕ} 0 1 = cc in omega arith)) e

pub finished_tells : (b : Board) → (verdict b ≡ Ok Finished → Complete b) × (sound b ≡ true → Complete b → verdict b ≡ Ok Finished)
finished_tells b = (λ e. (finished_complete b (finished_sound b e)).0 e, λ s c. (finished_complete b (sound_claims b s)).1 c)
