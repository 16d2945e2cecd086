-- `step_pass::new_depth` meets its contract. Assumes nothing.
use Rattle.std.proofs.Common.{[], ◌∷◌, pos, ◌∙◌, w64}
use Rattle.std.proofs.Math.ListN.{get_or}
use Rattle.integers.specs.Ring.{Expr, var, ◌⊕◌, ◌⊖◌}
use Rattle.integers.specs.Bounds.{Sizes, ∎, ◌◂◌, fits, exact}
use Rattle.integers.specs.Magnitudes.{depth-size, inflow-size}
use Rattle.scheme.specs.Passing.{most_flow}
use Rattle.step_pass.specs.Spaces.{depth_by}
use Rattle.step_pass.proofs.new_depth.Goals as goal
use Rattle.step_pass.proofs.new_depth.Goals.{After-cell_index-north}

-- over X to the east and here, Y to the north and here, the base's depth and the inflow
abbrev out : Expr
out = var 0 ⊖ var 1 ⊕ var 2 ⊖ var 3

abbrev depth : Expr
depth = var 4 ⊖ out ⊕ var 5

sizes : (c : After-cell_index-north)
    → let a = c.args in
    let here = c.cell_index-here.result in
    Sizes (get_or a.x.now c.cell_index-east.result (pos 0) ∷ get_or a.x.now here (pos 0) ∷ get_or a.y.now c.cell_index-north.result (pos 0) ∷ get_or a.y.now here (pos 0) ∷ get_or a.h.now here (pos 0) ∷ get_or a.inflow.now here (pos 0) ∷ [])
    (most_flow ∷ most_flow ∷ most_flow ∷ most_flow ∷ 100000 ∷ 1000 ∷ [])
sizes c =
    let r = c.requires.0 in
    let here = c.cell_index-here.result in
    let in-here = c.cell_index-here.ensures.1 in
    r.xs.each _ c.cell_index-east.ensures.1
    ◂ r.xs.each _ in-here
    ◂ r.ys.each _ c.cell_index-north.ensures.1
    ◂ r.ys.each _ in-here
    ◂ depth-size (r.depths.each here in-here)
    ◂ inflow-size (r.entering.each here in-here)
    ◂ ∎

pub overflow_add-out : goal.overflow_add-out
overflow_add-out c = fits (var 0 ⊖ var 1 ⊕ var 2) (sizes (goal.at.overflow_add-out c).After-cell_index-north) tt

pub overflow_sub-out : goal.overflow_sub-out
overflow_sub-out c = fits out (sizes (goal.at.overflow_sub-out c).After-cell_index-north) tt

pub overflow_sub-result : goal.overflow_sub-result
overflow_sub-result c = fits (var 4 ⊖ out) (sizes (goal.at.overflow_sub-result c).After-cell_index-north) tt

pub overflow_add-result : goal.overflow_add-result
overflow_add-result c = fits depth (sizes (goal.at.overflow_add-result c).After-cell_index-north) tt

pub returns : goal.returns
unfolding depth_by
returns c =
    exact w64 depth (sizes (goal.at.returns c).After-cell_index-north) tt
    ∙ rw (c.cell_index-north.ensures.0, c.next-2.ensures.0, c.cell_index-east.ensures.0, c.next.ensures.0, c.cell_index-here.ensures.0)
