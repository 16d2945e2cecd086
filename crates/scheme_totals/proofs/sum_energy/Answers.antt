-- `scheme_totals::sum_energy` meets its contract: row by row, column by column. Assumes nothing.
use mathlib.Core.Path.{sym, ap, ◌∙◌}
use Prim.Native.Nat.{ℕ, ◌+◌, ◌*◌, zero-le}
use native.Mathlib.Nat.{le_antisymm}
use native.Mathlib.Omega.{arith}
use lib.IntN.{ℤ, ◌+ℤ◌}
use Rattle.model.specs.Grid.{sum_grid}
use Rattle.model.specs.State.{State, lent_state}
use Rattle.model.specs.Totals.{energy_at, energy4}
use Rattle.integers.specs.Bounds.{Abs, abs-as}
use Rattle.scheme_totals.specs.Summing.{sum_before, grid-none, row-begun, row_more, row-ended, before-most, added-fits, added_is}
use Rattle.scheme_totals.specs.Energy.{most_energy, energy-size}
use Rattle.scheme_totals.proofs.sum_energy.Goals as goal
use Rattle.scheme_totals.proofs.sum_energy.Goals.{After-energy_at-sum}

-- the sizes of the sum so far, and of what is added to it
module _ (c : After-energy_at-sum) where
  abbrev state : State
  state = lent_state c.args.s.now

  so_far : Abs (sum_before state.w (energy_at state) c.loop-j.j c.loop-i.i) (64 * (64 * most_energy) + 64 * most_energy)
  so_far = let l = c.requires in before-most 64 l.columns.most l.rows.most c.loop-i.invariant.0 c.loop-j-test.true (λ i j p q. energy-size _ l p q)

  added : Abs c.energy_at-sum.result most_energy
  added = abs-as c.energy_at-sum.ensures (energy-size _ c.requires c.loop-i-test.true c.loop-j-test.true)

pub loop-j-init : goal.loop-j-init
loop-j-init c = (zero-le, sym (grid-none _ _))

pub loop-i-init : goal.loop-i-init
loop-i-init c = (zero-le, c.loop-j.invariant.1 ∙ row-begun _ _ c.loop-j.j)

pub overflow_add-sum : goal.overflow_add-sum
overflow_add-sum c = added-fits c.loop-i.sum-bits c.loop-i.invariant.1 (so_far c) (added c) tt

pub loop-i-preserved : goal.loop-i-preserved
loop-i-preserved c =
    let k = (goal.at.loop-i-preserved c).After-energy_at-sum in
    let l = c.loop-i in
    let s = lent_state c.args.s.now in
    let f = energy_at s in
    let j = c.loop-j.j in (
      omega arith,
      added_is l.sum-bits l.invariant.1 (so_far k) (added k) tt ∙ ap (λ (x : ℤ). sum_before s.w f j l.i +ℤ x) c.energy_at-sum.ensures ∙ row_more s.w f j l.i,
    )

pub loop-j-preserved : goal.loop-j-preserved
loop-j-preserved c =
    let l = c.loop-i in
    let s = lent_state c.args.s.now in
    let f = energy_at s in
    let j = c.loop-j.j in (
      omega arith,
      l.invariant.1 ∙ ap (λ (i : ℕ). sum_before s.w f j i) (le_antisymm l.invariant.0 c.loop-i-test.false) ∙ row-ended s.w f j,
    )

pub returns : goal.returns
unfolding energy4
returns c =
    let l = c.loop-j in
    let s = lent_state c.args.s.now in
    l.invariant.1 ∙ ap (λ (j : ℕ). sum_grid s.w j (energy_at s)) (le_antisymm l.invariant.0 c.loop-j-test.false)
