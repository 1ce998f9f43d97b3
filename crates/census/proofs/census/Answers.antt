-- Refused by the sizes, or by the opening's own checks, or counted from the fresh board.
use Rattle.std.proofs.Common.{sym, ap, subst, ◌∙◌, Ok}
use Rattle.std.proofs.lemmas.Result.{err_from_is_err_and}
use Rattle.rules.specs.declared.Outcome.{Outcome}
use Rattle.census.specs.Counting.{ends_from}
use Rattle.census.proofs.counting.TurnLaws.{Ready}
use Rattle.census.proofs.CensusLaws.{census_beyond, census_unopened, census_counted, opened_ready}
use Rattle.census.proofs.census.Goals as goal

pub returns-in_err-may_count : goal.returns-in_err-may_count
returns-in_err-may_count c =
    let p = err_from_is_err_and c.from_residual.result c.from_residual.ensures.1 in
    let a = c.args in
    rw (p.1, p.2) (sym (census_beyond a.m a.d a.parents.now a.length _ (sym c.may_count.ensures ∙ c.in_err-may_count.was)))

pub returns-in_err-opened : goal.returns-in_err-opened
returns-in_err-opened c =
    let p = err_from_is_err_and c.from_residual-in_err-opened.result c.from_residual-in_err-opened.ensures.1 in
    let a = c.args in
    let answer = sym (ap (λ (x : Outcome). x.answer) c.open-opened.ensures) ∙ c.in_err-opened.was in
    rw (p.1, p.2) (sym (census_unopened a.m a.d a.parents.now a.length (sym c.may_count.ensures ∙ c.in_ok-may_count.was) _ answer))

pub ends-requires : goal.ends-requires
ends-requires c =
    let a = c.args in
    let o = c.open-opened in
    let answer = sym (ap (λ (x : Outcome). x.answer) o.ensures) ∙ c.in_ok-opened.was in
    let opened = opened_ready a.m a.d a.parents.now a.length (sym c.may_count.ensures ∙ c.in_ok-may_count.was) answer in
    let r : Ready o.result.board = subst (λ (x : Outcome). Ready x.board) (sym o.ensures) opened.0 in
    (r.0, r.1, r.2, opened.1)

pub returns : goal.returns
returns c =
    let a = c.args in
    let o = c.open-opened in
    let answer = sym (ap (λ (x : Outcome). x.answer) o.ensures) ∙ c.in_ok-opened.was in
    ap Ok c.ends.ensures
    ∙ ap (λ (x : Outcome). Ok (ends_from x.board a.length)) o.ensures
    ∙ sym (census_counted a.m a.d a.parents.now a.length (sym c.may_count.ensures ∙ c.in_ok-may_count.was) answer)
