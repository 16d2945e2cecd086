use Prim.Native.Nat.{◌*◌, ◌≤◌}
use Rattle.model.specs.State.{lent_state, corner_columns, corner_rows}
use Rattle.model.specs.Scheme.{vorticity_at}
use Rattle.grid.specs.WritingLoops.{Writing, field}
use Rattle.scheme.proofs.fill_vorticity.Given as goal

abbrev pub invariant-loop-y : goal.invariant-loop-y
invariant-loop-y l =
    let t = lent_state l.s in (l.y ≤ l.rows) × Writing 0 (field (corner_columns t) (corner_rows t) (vorticity_at t)) l.initial.d (l.y * corner_columns t) l.d
