-- How far from zero a number within the model's limits is, and 01's Z and H of such numbers. Assumes nothing.
use Rattle.std.specs.Prelude.{ℕ, ◌≤◌, ℤ, pos, negsuc, nat_abs, ◌+ℤ◌, ◌-ℤ◌, ◌≤ℤ◌}
use Rattle.std.proofs.Common.{leb→le}
use Rattle.model.specs.Numbers.{Within, depth_limits, bottom_limits, velocity_limits, gravity_limits, coriolis_limits, ratio_limits, inflow_limits, vorticity_limits}
use Rattle.integers.specs.Ring.{Expr, var, ◌⊕◌, ◌⊖◌}
use Rattle.integers.specs.Order.{≤-add}
use Rattle.integers.specs.Bounds.{Abs, ∎, ◌◂◌, size, abs-within}

module _ {x : ℤ} where
  pub depth-size : Within depth_limits x → Abs x 100000
  unfolding depth_limits
  depth-size p = abs-within p tt

  pub bottom-size : Within bottom_limits x → Abs x 100000
  unfolding bottom_limits
  bottom-size p = abs-within p tt

  pub velocity-size : Within velocity_limits x → Abs x 5000
  unfolding velocity_limits
  velocity-size p = abs-within p tt

  pub gravity-size : Within gravity_limits x → Abs x 10000
  unfolding gravity_limits
  gravity-size p = abs-within p tt

  pub coriolis-size : Within coriolis_limits x → Abs x 10000
  unfolding coriolis_limits
  coriolis-size p = abs-within p tt

  pub ratio-size : Within ratio_limits x → Abs x 1000000
  unfolding ratio_limits
  ratio-size p = abs-within p tt

  pub inflow-size : Within inflow_limits x → Abs x 1000
  unfolding inflow_limits
  inflow-size p = abs-within p tt

  pub vorticity-size : Within vorticity_limits x → Abs x 2000000
  unfolding vorticity_limits
  vorticity-size p = abs-within p tt

-- 01's Z, from c, v and v to the west, u to the south and u
abbrev pub absolute_vorticity : Expr
absolute_vorticity = var 0 ⊕ var 1 ⊖ var 2 ⊕ var 3 ⊖ var 4

pub absolute-vorticity-size : {c v v' u' u : ℤ} → Within coriolis_limits c → Within velocity_limits v → Within velocity_limits v' → Within velocity_limits u' → Within velocity_limits u
    → Abs (c +ℤ v -ℤ v' +ℤ u' -ℤ u) 30000
absolute-vorticity-size c v v' u' u =
    size absolute_vorticity (coriolis-size c ◂ velocity-size v ◂ velocity-size v' ◂ velocity-size u' ◂ velocity-size u ◂ ∎) tt

-- 01's H, from four depths
abbrev pub depth_sum : Expr
depth_sum = var 0 ⊕ var 1 ⊕ var 2 ⊕ var 3

module _ {a b c d : ℤ} (p : Within depth_limits a) (q : Within depth_limits b) (r : Within depth_limits c) (s : Within depth_limits d) where
  pub depths-size : Abs (a +ℤ b +ℤ c +ℤ d) 400000
  depths-size = size depth_sum (depth-size p ◂ depth-size q ◂ depth-size r ◂ depth-size s ◂ ∎) tt

  pub depths-least : pos 4000 ≤ℤ (a +ℤ b +ℤ c +ℤ d)
  unfolding depth_limits
  depths-least = ≤-add (≤-add (≤-add p.low q.low) r.low) s.low

-- a number from m on is at least that far from zero
pub least_size : (m : ℕ) (x : ℤ) → pos m ≤ℤ x → m ≤ nat_abs x
least_size m (pos n) h = leb→le m n h.le
least_size m (negsuc n) h = absurd h.le
