-- The guarantee of a sheet: from a sound one with nothing out, of every list of steps.
use mathlib.Core.Path.{◌≡◌, ◌∙◌}
use mathlib.Core.List.{List}
use native.Mathlib.Omega.{arith}
use Rattle.rules.specs.Sheets.Sheet.{Sheet}
use Rattle.rules.specs.Sheets.Sound.{Sound}
use Rattle.rules.specs.Sheets.Lists.{steps, after}
use Rattle.rules.specs.Guarantee.{sheets, GuaranteedOf, step_history}
use Rattle.rules.proofs.Sheets.ListLaws.{list_keeps_sound, debt_account}
use Rattle.rules.proofs.Sheets.FinishedLaws.{finished_complete}
use Rattle.rules.proofs.Sheets.DrainLaws.{quiet_drains}
use Rattle.rules.specs.Records.{StepRecord}

pub sheet_guarantee : (f : Sheet) → Sound f → f.debt ≡ 0 → (rs : List StepRecord) → GuaranteedOf sheets steps step_history f rs (after f rs)
sheet_guarantee f s e rs =
    let h : Sound (after f rs) = list_keeps_sound f rs s in
    record {
      is_sound = h;
      conserved = h.s5_s6_debt.0;
      accounted = debt_account f rs s ∙ omega (arith, e);
      finished = finished_complete (after f rs) h;
      drains_end = quiet_drains (after f rs) h;
    }
