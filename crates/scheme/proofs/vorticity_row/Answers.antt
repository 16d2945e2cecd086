-- `scheme::vorticity_row` meets its contract: place by place, and then the corner past the last place, where there is one. Assumes nothing.
use mathlib.Core.Path.{sym, subst}
use Prim.Native.Nat.{ℕ, ◌+◌, ◌≤◌}
use native.Mathlib.Nat.{le_antisymm}
use native.Mathlib.Omega.{arith}
use mir.Syntax.{w64}
use Rattle.model.specs.State.{lent_state, walled_west, corner_rows}
use Rattle.model.specs.Scheme.{vorticity_at}
use Rattle.integers.specs.Bounds.{held-is}
use Rattle.grid.specs.Corners.{corners-more, corners-next}
use Rattle.grid.specs.WritingLoops.{RowWriting, row-filled, row-whole}
use Rattle.scheme.proofs.vorticity_row.Goals as goal

pub loop-x-preserved : goal.loop-x-preserved
loop-x-preserved c =
    let s = lent_state c.args.s.now in
    let l = c.loop-x-test.true in
    (omega arith, row-filled _ _ _ c.loop-x.invariant.1 (rw c.corner_columns-columns.ensures (corners-more (walled_west s) l)) c.requires.1 (held-is w64 c.vorticity_at.type_inv c.vorticity_at.ensures))

pub returns-then-s-columns : goal.returns-then-s-columns
returns-then-s-columns c =
    let s = lent_state c.args.s.now in
    let w = c.args.s.now.p.w in
    let e = c.corner_columns-columns.ensures in
    let inv = c.loop-x.invariant in
    let at-end = subst (λ (x : ℕ). RowWriting c.corner_columns-columns.result (corner_rows s) (vorticity_at s) 0 c.args.y c.args.d.now x c.loop-x.d) (le_antisymm inv.0 c.loop-x-test.false) inv.1 in
    rw (← e)
    (row-whole _ _ _
    (row-filled _ _ _ at-end c.if-s-columns.true c.requires.1 (held-is w64 c.wall_vorticity_at.type_inv (c.wall_vorticity_at.ensures s.u s.v)))
    (subst (λ (m : ℕ). m ≤ w + 1) (sym e) (corners-next (walled_west s) w)))
