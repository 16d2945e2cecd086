-- What the tests find is the model's; once they have passed, the state is within the limits. Assumes nothing.
use Rattle.std.proofs.Common.{refl}
use native.Mathlib.Nat.{mod-lt}
use Rattle.model.specs.State.{lent_state}
use Rattle.model.specs.Doubles.{narrow}
use Rattle.grid.specs.CellFields.{row_lt}
use Rattle.tests.specs.Links.{accepted-none, refused-some}
use Rattle.scheme_probe.specs.Probed.{if-exact, if-near, probe-passed, probe-done, probe-refused}
use Rattle.scheme_probe.proofs.probe.Goals as goal

pub returns-in-Err : goal.returns-in-Err
returns-in-Err c = let a = c.args in probe-refused (lent_state a.s.now) a.q.now a.cell (refused-some _ _ c.in-Err.ensures)

pub nonzero_rem-cell : goal.nonzero_rem-cell
nonzero_rem-cell c = let a = c.args in (probe-passed (lent_state a.s.now) a.q.now a.cell (accepted-none _ c.in_default.ensures)).0.0.state.columns.some

pub nonzero_div-cell : goal.nonzero_div-cell
nonzero_div-cell c = let a = c.args in (probe-passed (lent_state a.s.now) a.q.now a.cell (accepted-none _ c.in_default.ensures)).0.0.state.columns.some

pub doubles_at-d-requires : goal.doubles_at-d-requires
doubles_at-d-requires c =
    let a = c.args in
    let i = probe-passed (lent_state a.s.now) a.q.now a.cell (accepted-none _ c.in_default.ensures) in
    let w = i.0.0.state.columns.some in
    (i.0, mod-lt _ w, row_lt w i.1)

pub precision_of-requires : goal.precision_of-requires
precision_of-requires c = let a = c.args in (probe-passed (lent_state a.s.now) a.q.now a.cell (accepted-none _ c.in_default.ensures)).0.0

pub returns-in-Exact : goal.returns-in-Exact
returns-in-Exact c =
    let a = c.args in
    let s = lent_state a.s.now in
    let n = if-exact (narrow s a.q.now) c.in-Exact.ensures in
    probe-done s a.q.now a.cell (accepted-none _ c.in_default.ensures) n c.doubles_at-d.ensures refl

pub returns-in-Near : goal.returns-in-Near
returns-in-Near c =
    let a = c.args in
    let s = lent_state a.s.now in
    let n = if-near (narrow s a.q.now) c.in-Near.ensures in
    probe-done s a.q.now a.cell (accepted-none _ c.in_default.ensures) n c.doubles_at-d.ensures refl
