-- The checks refuse, or the length is told.
use Rattle.std.proofs.Common.{sym, ap, ◌∙◌, Ok}
use Rattle.std.proofs.lemmas.Result.{err_from_is_err_and}
use Rattle.rules.proofs.JudgeLaws.{answer_claims}
use Rattle.rules.proofs.SoundLaws.{sound_claims}
use Rattle.drains.specs.Calls.{drain_checks}
use Rattle.drains.proofs.CheckLaws.{length_refused, length_told}
use Rattle.drains.proofs.told_length.Goals as goal

pub returns-in_err-may_show : goal.returns-in_err-may_show
returns-in_err-may_show c =
    let p = err_from_is_err_and c.from_residual.result c.from_residual.ensures.1 in
    rw (p.1, p.2) (sym (length_refused c.args.b.now _ (sym c.may_show.ensures ∙ c.in_err-may_show.was)))

pub length_of-requires : goal.length_of-requires
length_of-requires c = sound_claims _ (answer_claims (drain_checks c.args.b.now) (sym c.may_show.ensures ∙ c.in_ok-may_show.was)).0

pub returns : goal.returns
returns c = ap Ok c.length_of.ensures ∙ sym (length_told c.args.b.now (answer_claims (drain_checks c.args.b.now) (sym c.may_show.ensures ∙ c.in_ok-may_show.was)))
