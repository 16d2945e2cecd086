use mathlib.Core.Path.{◌≡◌}
use Prim.Native.Nat.{◌≤◌}
use Rattle.model.specs.Grid.{sum_grid}
use Rattle.model.specs.State.{lent_state}
use Rattle.model.specs.Totals.{energy_at}
use Rattle.scheme_totals.specs.Summing.{sum_before}
use Rattle.scheme_totals.proofs.sum_energy.Given as goal

abbrev pub invariant-loop-i : goal.invariant-loop-i
invariant-loop-i l = let t = lent_state l.s in (l.i ≤ t.w) × (l.sum ≡ sum_before t.w (energy_at t) l.j l.i)

abbrev pub invariant-loop-j : goal.invariant-loop-j
invariant-loop-j l = let t = lent_state l.s in (l.j ≤ t.n) × (l.sum ≡ sum_grid t.w l.j (energy_at t))
