-- `parents_of`: the numbers behind field 2 are the parents.
use mathlib.Core.Path.{◌≡◌, refl, sym, ◌∙◌}
use native.Mathlib.Omega.{arith}
use mathlib.Core.List.{List}
use Prim.Native.Nat.{ℕ}
use Rattle.std.proofs.Common.{Result, Ok}
use Rattle.refusals.specs.declared.Refusal.{Refusal}
use Rattle.fields.specs.Fields.{tab}
use Rattle.fields.proofs.PartLaws.{end_at_most}
use Rattle.script.proofs.ParentLaws.{parents_found}
use Rattle.script.proofs.lines.parents_of.Goals as goal

ok_same : {xs ys : List ℕ} → ◌≡◌ {A = Result (List ℕ) Refusal} (Ok xs) (Ok ys) → xs ≡ ys
ok_same e = cc

pub overflow_add-end : goal.overflow_add-end
overflow_add-end c = omega (arith, end_at_most tab c.field_start-start.result c.args.line.now)

pub unwrap-requires : goal.unwrap-requires
unwrap-requires c = rw (parents_found _ c.requires c.field_start-start.ensures c.end_from-end.ensures c.read_numbers.ensures) refl

pub returns : goal.returns
returns c =
    ok_same (sym c.unwrap.ensures ∙ parents_found _ c.requires c.field_start-start.ensures c.end_from-end.ensures c.read_numbers.ensures)
