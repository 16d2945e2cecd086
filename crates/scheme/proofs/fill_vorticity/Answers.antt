-- `scheme::fill_vorticity` meets its contract: row by row, over the grid of corners. Assumes nothing.
use mathlib.Core.Path.{subst}
use Prim.Native.Nat.{ℕ, ◌≤◌}
use Rattle.model.specs.Scheme.{vorticity}
use Rattle.grid.specs.WritingLoops.{rows-filled}
use Rattle.scheme.proofs.fill_vorticity.Goals as goal

pub returns : goal.returns
unfolding vorticity
returns c = rows-filled _ _ _ c.loop-y.invariant.1 (subst (λ (m : ℕ). m ≤ c.loop-y.y) c.corner_rows-rows.ensures c.loop-y-test.false)
