-- `step_pass::pass` meets its contract: potential vorticity, flows, depths, velocities as if there were no barriers, and 0 on the edges that
-- these close. Assumes nothing.
use mathlib.Core.Path.{◌≡◌, ap, sym, subst, ◌∙◌}
use lib.ListN.{length, take}
use Rattle.model.specs.State.{lent_state, with_flow, WithinLimits}
use Rattle.model.specs.Scheme.{vorticity}
use Rattle.model.specs.Step as Model
use Rattle.model.specs.Step.{X, Y}
use Rattle.grid.specs.CellFields.{length-by_cell}
use Rattle.step_pass.proofs.PassLaws.{depth-ready, velocity-ready, vorticity-is, passed}
use Rattle.step_pass.proofs.pass.Goals as goal
use Rattle.step_pass.proofs.pass.Goals.{After-fill_flows, After-corner_count-corners}

-- the base is the given state with other depths and velocities
within : (c : After-fill_flows) → let b = c.args.base.now in WithinLimits (with_flow (lent_state c.args.s.now) b.h.now b.u.now b.v.now)
within c = subst WithinLimits c.requires.alike c.requires.base

-- what is lent on is the state's own potential vorticity
q-is : (c : After-corner_count-corners) → take c.corner_count-corners.result c.fill_vorticity.new.d ≡ vorticity (lent_state c.args.s.now)
q-is c = vorticity-is (lent_state c.args.s.now) c.args.q.now c.fill_vorticity.ensures c.corner_count-corners.ensures.0

pub fill_depth-requires : goal.fill_depth-requires
fill_depth-requires c =
    let t = (goal.at.fill_depth-requires c).After-fill_flows in
    (depth-ready (lent_state c.args.s.now) c.args.inflow.now c.requires.given _ _ _ (within t) c.fill_flows.ensures c.requires.entering, c.requires.room-h)

pub fill_velocity-requires : goal.fill_velocity-requires
fill_velocity-requires c =
    let f = (goal.at.fill_velocity-requires c).After-fill_flows in
    let t = (goal.at.fill_velocity-requires c).After-corner_count-corners in
    let s = lent_state c.args.s.now in
    let e = c.fill_flows.ensures in (
      velocity-ready s c.args.inflow.now c.requires.given _ _ _ (within f) (q-is t),
      ap length e.0 ∙ length-by_cell s.w s.n (X s),
      ap length e.1 ∙ length-by_cell s.w s.n (Y s),
    )

pub returns : goal.returns
returns c =
    let f = (goal.at.returns c).After-fill_flows in
    let t = (goal.at.returns c).After-corner_count-corners in
    let s = lent_state c.args.s.now in
    let base = lent_state c.args.base.now in
    let inflow = c.args.inflow.now in
    ap (λ b. with_flow b c.fill_depth.new.d c.clear_barred.new.f c.clear_barred-2.new.f) c.requires.alike
    ∙ passed s inflow c.requires.given _ _ _ (within f) (q-is t) c.fill_flows.ensures c.fill_depth.ensures c.fill_velocity.ensures c.clear_barred.ensures c.clear_barred-2.ensures
    ∙ ap (λ b. Model.pass b s inflow) (sym c.requires.alike)
