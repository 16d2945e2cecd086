use Prim.Native.Nat.{◌≤◌}
use Rattle.model.specs.State.{lent_state, corner_rows}
use Rattle.model.specs.Scheme.{vorticity_at}
use Rattle.grid.specs.WritingLoops.{RowWriting}
use Rattle.scheme.proofs.vorticity_row.Given as goal

abbrev pub invariant-loop-x : goal.invariant-loop-x
invariant-loop-x l = let t = lent_state l.s in (l.x ≤ l.s.p.w) × RowWriting l.columns (corner_rows t) (vorticity_at t) 0 l.y l.initial.d l.x l.d
