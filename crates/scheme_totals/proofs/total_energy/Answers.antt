-- Once the tests have passed, the state is within the limits, which is more than the sum asks for. Assumes nothing.
use Rattle.std.proofs.Common.{w64, sym, ap}
use Rattle.std.proofs.lemmas.Result.{err_from_is_err_and}
use Rattle.model.specs.State.{lent_state}
use Rattle.model.specs.Answers.{told_total}
use Rattle.model.specs.Totals.{energy4}
use Rattle.integers.specs.Bounds.{held-is}
use Rattle.scheme_totals.proofs.CallLaws.{total-passed, total-told, total-refused}
use Rattle.scheme_totals.proofs.total_energy.Goals as goal

pub returns-in_err-test_state : goal.returns-in_err-test_state
returns-in_err-test_state c =
    let a = c.args in
    let s = lent_state a.s.now in
    let p = err_from_is_err_and c.from_residual.result c.from_residual.ensures.1 in
    let e = total-refused s (energy4 s) (sym c.in_err-test_state.ensures) in
    rw (p.1, p.2) (record { answers = e; tells = ap told_total e })

pub sum_energy-requires : goal.sum_energy-requires
sum_energy-requires c =
    let a = c.args in search (total-passed (lent_state a.s.now) (sym c.in_ok-test_state.ensures))

pub returns : goal.returns
returns c =
    let a = c.args in
    let s = lent_state a.s.now in
    let e = total-told s (sym c.in_ok-test_state.ensures) (held-is w64 c.sum_energy.type_inv c.sum_energy.ensures) in
    record { answers = e; tells = ap told_total e }
