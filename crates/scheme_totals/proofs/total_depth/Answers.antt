-- Once the tests have passed, the state is within the limits, so that the sum of its depths is one that fits. Assumes nothing.
use Rattle.std.proofs.Common.{◌≤◌, ℕ, w64, sym, ap, subst}
use Rattle.std.proofs.lemmas.Result.{err_from_is_err_and}
use Rattle.model.specs.Numbers.{depth_limits}
use Rattle.model.specs.State.{lent_state, FieldWithin}
use Rattle.model.specs.Answers.{told_total}
use Rattle.model.specs.Totals.{total_depth}
use Rattle.integers.specs.Bounds.{held-is}
use Rattle.grid.specs.Cells.{cells-most}
use Rattle.scheme_totals.proofs.CallLaws.{total-passed, total-told, total-refused}
use Rattle.scheme_totals.proofs.total_depth.Goals as goal

pub returns-in_err-test_state : goal.returns-in_err-test_state
returns-in_err-test_state c =
    let a = c.args in
    let s = lent_state a.s.now in
    let p = err_from_is_err_and c.from_residual.result c.from_residual.ensures.1 in
    let e = total-refused s (total_depth s) (sym c.in_err-test_state.ensures) in
    rw (p.1, p.2) (record { answers = e; tells = ap told_total e })

pub sum_depths-requires : goal.sum_depths-requires
sum_depths-requires c =
    let a = c.args in
    let l = total-passed (lent_state a.s.now) (sym c.in_ok-test_state.ensures) in
    let e = sym l.depths.long in
    (subst (λ (m : ℕ). FieldWithin depth_limits m a.s.now.h.now) e l.depths, subst (λ (m : ℕ). m ≤ 4096) e (cells-most l.columns l.rows))

pub returns : goal.returns
unfolding total_depth
returns c =
    let a = c.args in
    let e = total-told (lent_state a.s.now) (sym c.in_ok-test_state.ensures) (held-is w64 c.sum_depths.type_inv c.sum_depths.ensures) in
    record { answers = e; tells = ap told_total e }
