-- How large a flow becomes, a tendency, and the change of a velocity, in a pass from a state within the limits. Assumes nothing.
use Rattle.std.proofs.Common.{sym, zero-le, le_trans, mul-le-mul_left, leb→le}
use Rattle.std.specs.Prelude.{Bool, true, false, cond, List, ℕ, ◌*◌, ◌≤◌, ◌<◌, ℤ, ◌*ℤ◌, ◌≤ℤ◌}
use Rattle.std.proofs.Math.IntN.{pos}
use Rattle.model.specs.Numbers.{Within, rnd, ratio_limits}
use Rattle.model.specs.State.{State, closed_west, closed_south, WithinLimits}
use Rattle.model.specs.Scheme.{tendency_u, tendency_v}
use Rattle.model.specs.Step.{X, Y}
use Rattle.integers.specs.Ring.{var, ◌⊕◌}
use Rattle.integers.specs.Order.{≤-mul}
use Rattle.integers.specs.Bounds.{Abs, ∎, ◌◂◌, abs-as, size}
use Rattle.integers.specs.Magnitudes.{least_size}
use Rattle.integers.specs.Rounding.{rnd-size}
use Rattle.grid.specs.Cells.{previous-lt}
use Rattle.scheme.specs.Ready.{TendenciesReady}
use Rattle.scheme.specs.Shares.{most_flux, most_tendency, u-shares, v-shares}
use Rattle.scheme.specs.SchemeSizes.{flux_u-size, flux_v-size, west-size, east-size, south-size, north-size, fit-in}

-- the largest flux over the least 2R, and the largest tendency over the least 3,145,728 R, each rounded up
abbrev pub most_flow : ℕ
most_flow = 500000

abbrev pub most_change : ℕ
most_change = 34567579

module _ {r : ℤ} (p : Within ratio_limits r) where
  -- what the code divides by
  pub flow-divisor : pos 2000 ≤ℤ (pos 2 *ℤ r)
  unfolding ratio_limits
  flow-divisor = ≤-mul {k = pos 2} (record { le = tt }) p.low

  pub change-divisor : pos 3145728000 ≤ℤ (pos 3145728 *ℤ r)
  unfolding ratio_limits
  change-divisor = ≤-mul {k = pos 3145728} (record { le = tt }) p.low

-- a quotient of a number that is at most k times the least divisor
quotient : (k m : ℕ) {a b : ℤ} {n : ℕ} → Abs a n → pos m ≤ℤ b → 0 < m → n ≤ k * m → Abs (rnd a b) k
quotient k m {a} {b} {n} h l z e =
    let d = least_size m b l in
    record { abs = rnd-size k a b (le_trans z d) (le_trans h.abs (le_trans e (mul-le-mul_left k d))) }

pub flow-size : {flux r : ℤ} → Abs flux most_flux → Within ratio_limits r → Abs (rnd flux (pos 2 *ℤ r)) most_flow
flow-size h p = quotient most_flow 2000 h (flow-divisor p) (leb→le 1 2000 tt) (leb→le most_flux (most_flow * 2000) tt)

pub change-size : {t r : ℤ} → Abs t most_tendency → Within ratio_limits r → Abs (rnd t (pos 3145728 *ℤ r)) most_change
change-size h p = quotient most_change 3145728000 h (change-divisor p) (leb→le 1 3145728000 tt) (leb→le most_tendency (most_change * 3145728000) tt)

module _ {s : State} (l : WithinLimits s) {i j : ℕ} (p : i < s.w) (q : j < s.n) where
  pub X-size : Abs (X s i j) most_flow
  unfolding X
  X-size = flow-size (flux_u-size s l.depths p q l.columns l.us) l.ratio

  pub Y-size : Abs (Y s i j) most_flow
  unfolding Y
  Y-size = flow-size (flux_v-size s l.depths p q l.rows l.vs) l.ratio

-- a tendency is two shares, or none
module _ {s : State} {q : List ℤ} (l : TendenciesReady s q) {i j : ℕ} (p : i < s.w) (r : j < s.n) where
  masked : (closed : Bool) {t : ℤ} → Abs t most_tendency → Abs (cond closed (pos 0) t) most_tendency
  masked true h = record { abs = zero-le }
  masked false h = h

  pub tendency_u-size : Abs (tendency_u s q i j) most_tendency
  unfolding tendency_u
  tendency_u-size =
      masked (closed_west s i j)
      (abs-as (sym (u-shares s q i j)) (size (var 0 ⊕ var 1) (west-size (fit-in l p r) ◂ east-size (fit-in l (previous-lt s.w i l.state.columns.some) r) ◂ ∎) tt))

  pub tendency_v-size : Abs (tendency_v s q i j) most_tendency
  unfolding tendency_v
  tendency_v-size =
      masked (closed_south s i j)
      (abs-as (sym (v-shares s q i j)) (size (var 0 ⊕ var 1) (south-size (fit-in l p r) ◂ north-size (fit-in l p (previous-lt s.n j l.state.rows.some)) ◂ ∎) tt))
