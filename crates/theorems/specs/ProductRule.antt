-- The scaled energy rate is what the product rule gives for four times total energy. Assumes nothing.
use Rattle.std.specs.Prelude.{◌≡◌, List, [], ◌∷◌, neg_ℤ, ◌+ℤ◌, ◌-ℤ◌, ◌*ℤ◌}
use Rattle.std.proofs.Math.Path.{ap}
use Rattle.std.proofs.Common.{ap₂, ◌∙◌}
use Prim.Native.Nat.{ℕ, ◌<◌}
use native.Mathlib.Omega.{arith}
use Rattle.std.proofs.Math.IntN.{ℤ, pos, +ℤ_idl}
use Rattle.grid.specs.Cells.{previous-lt}
use Rattle.model.specs.Grid.{at}
use Rattle.model.specs.State.{State}
use Rattle.model.specs.Scheme.{to_west, to_south, flux_u, flux_v, B}
use Rattle.model.specs.Totals.{energy_at, energy4}
use Rattle.model.specs.Rates.{energy_rate}
use Rattle.model.specs.Claims.{changed, EnergyRateClaim}
use Rattle.integers.specs.Ring.{Expr}
use Rattle.grid.specs.Sums.{grid, grid-cong, grid-add, grid_scale}
use Rattle.grid.specs.Torus.{scalar, field, grid-same}
use Rattle.theorems.specs.Conservation.{Alg, ints, exprs, Near, near}
use Rattle.grid.specs.CellFields.{at-by_cell}

-- ---- the formulas, around a cell

module _ {R : Type 0} (𝓐 : Alg R) (G : R) (b : Near R) where
  open 𝓐 use {add as ◌⊞◌, sub as ◌⊟◌, mul as ◌⊠◌, lit}

  infixl 60 ◌⊞◌ ◌⊟◌
  infixl 70 ◌⊠◌
  abbrev energy_near : Near R → Near R → Near R → R
  energy_near h u v =
      (h 1 2 ⊞ h 2 2) ⊠ (u 2 2 ⊠ u 2 2)
      ⊞ (h 2 1 ⊞ h 2 2) ⊠ (v 2 2 ⊠ v 2 2)
      ⊞ lit (pos 2) ⊠ G ⊠ h 2 2 ⊠ (h 2 2 ⊞ lit (pos 2) ⊠ b 2 2)

  module _ (h u v x y z : Near R) where
    abbrev bernoulli : R
    bernoulli = u 2 2 ⊠ u 2 2 ⊞ u 3 2 ⊠ u 3 2 ⊞ v 2 2 ⊠ v 2 2 ⊞ v 2 3 ⊠ v 2 3 ⊞ lit (pos 4) ⊠ G ⊠ (h 2 2 ⊞ b 2 2)

    -- the rate, with x for the depth tendency
    abbrev rate_near : R
    rate_near =
        lit (pos 2) ⊠ (u 2 2 ⊠ (h 1 2 ⊞ h 2 2)) ⊠ y 2 2
        ⊞ lit (pos 2) ⊠ (v 2 2 ⊠ (h 2 1 ⊞ h 2 2)) ⊠ z 2 2
        ⊟ lit (pos 1572864) ⊠ bernoulli ⊠ (lit (pos 0) ⊟ x 2 2)

    -- the change of a depth over e = 1
    abbrev X : Near R
    X i j = lit (pos 1572864) ⊠ x i j

    -- what is left, over e²
    abbrev rest_near : R → R
    rest_near e =
        (h 1 2 ⊞ h 2 2) ⊠ y 2 2 ⊠ y 2 2 ⊞ lit (pos 2) ⊠ (X 1 2 ⊞ X 2 2) ⊠ u 2 2 ⊠ y 2 2 ⊞ e ⊠ (X 1 2 ⊞ X 2 2) ⊠ y 2 2 ⊠ y 2 2
        ⊞ ((h 2 1 ⊞ h 2 2) ⊠ z 2 2 ⊠ z 2 2 ⊞ lit (pos 2) ⊠ (X 2 1 ⊞ X 2 2) ⊠ v 2 2 ⊠ z 2 2 ⊞ e ⊠ (X 2 1 ⊞ X 2 2) ⊠ z 2 2 ⊠ z 2 2)
        ⊞ lit (pos 2) ⊠ G ⊠ X 2 2 ⊠ X 2 2

    abbrev before : R → R
    before e = energy_near h u v ⊞ e ⊠ rate_near ⊞ e ⊠ e ⊠ rest_near e

    abbrev after : R → R
    after e = energy_near (λ i j. h i j ⊞ e ⊠ X i j) (λ i j. u i j ⊞ e ⊠ y i j) (λ i j. v i j ⊞ e ⊠ z i j)

-- ---- summed over the torus

module _ (w n : ℕ) (G e : ℤ) (b h u v x y z : ℕ → ℕ → ℤ) where
  abbrev ex : (Expr → Near Expr → Near Expr → Near Expr → Near Expr → Near Expr → Near Expr → Near Expr → Expr → Expr) → Expr
  ex f = f (scalar 0) (field 0) (field 1) (field 2) (field 3) (field 4) (field 5) (field 6) (scalar 1)

  abbrev by : (ℕ → ℕ → ℤ) → ℕ → ℕ → Near ℤ
  by f i j = near w n i j f

  summed : grid w n (λ i j. after ints G (by b i j) (by h i j) (by u i j) (by v i j) (by x i j) (by y i j) (by z i j) e)
      ≡ grid w n (λ i j. before ints G (by b i j) (by h i j) (by u i j) (by v i j) (by x i j) (by y i j) (by z i j) e)
  summed = grid-same (ex (λ G b h u v x y z e. after exprs G b h u v x y z e)) (ex (λ G b h u v x y z e. before exprs G b h u v x y z e)) tt w n (G ∷ e ∷ []) (b ∷ h ∷ u ∷ v ∷ x ∷ y ∷ z ∷ [])

split : (w n : ℕ) (f g h : ℕ → ℕ → ℤ) (e : ℤ) → grid w n (λ i j. f i j +ℤ e *ℤ g i j +ℤ e *ℤ e *ℤ h i j) ≡ grid w n f +ℤ e *ℤ grid w n g +ℤ e *ℤ e *ℤ grid w n h
split w n f g h e =
    grid-add w n (λ i j. f i j +ℤ e *ℤ g i j) (λ i j. e *ℤ e *ℤ h i j)
    ∙ ap₂ ◌+ℤ◌ (grid-add w n f (λ i j. e *ℤ g i j) ∙ ap (λ z. grid w n f +ℤ z) (grid_scale w n e g)) (grid_scale w n (e *ℤ e) h)

-- ---- the model's formulas are these

module _ (s : State) (dh du dv : List ℤ) (e : ℤ) where
  abbrev fld : List ℤ → ℕ → ℕ → ℤ
  fld = at s.w

  module _ (i j : ℕ) (p : i < s.w) (r : j < s.n) where
    abbrev nr : List ℤ → Near ℤ
    nr l = near s.w s.n i j (fld l)

    changed-at : energy_at (changed s e dh du dv) i j ≡ after ints s.G (nr s.b) (nr s.h) (nr s.u) (nr s.v) (nr dh) (nr du) (nr dv) e
    unfolding energy_at
    changed-at =
        let H : ℕ → ℕ → ℤ = λ i j. fld s.h i j +ℤ e *ℤ (pos 1572864 *ℤ fld dh i j) in
        let here = at-by_cell s.w s.n H i j p r in
        let to-west = at-by_cell s.w s.n H (to_west s i) j (previous-lt s.w i (some i s.w p)) r in
        let to-south = at-by_cell s.w s.n H i (to_south s j) p (previous-lt s.n j (some j s.n r)) in
        let u = at-by_cell s.w s.n (λ i j. fld s.u i j +ℤ e *ℤ fld du i j) i j p r in
        let v = at-by_cell s.w s.n (λ i j. fld s.v i j +ℤ e *ℤ fld dv i j) i j p r in
        λ k.
        (to-west k +ℤ here k) *ℤ (u k *ℤ u k)
        +ℤ (to-south k +ℤ here k) *ℤ (v k *ℤ v k)
        +ℤ pos 2 *ℤ s.G *ℤ here k *ℤ (here k +ℤ pos 2 *ℤ fld s.b i j)
      where
        some : (i w : ℕ) → i < w → 0 < w
        some i w p = omega arith

    rate-at : rate_near ints s.G (nr s.b) (nr s.h) (nr s.u) (nr s.v) (nr dh) (nr du) (nr dv)
        ≡ pos 2 *ℤ flux_u s i j *ℤ fld du i j +ℤ pos 2 *ℤ flux_v s i j *ℤ fld dv i j -ℤ pos 1572864 *ℤ B s i j *ℤ neg_ℤ (fld dh i j)
    unfolding flux_u flux_v B
    rate-at = ap (λ d. pos 2 *ℤ flux_u s i j *ℤ fld du i j +ℤ pos 2 *ℤ flux_v s i j *ℤ fld dv i j -ℤ pos 1572864 *ℤ B s i j *ℤ d) (+ℤ_idl (neg_ℤ (fld dh i j)))

pub energy-rate : EnergyRateClaim
unfolding energy4 energy_at energy_rate
energy-rate s dh du dv e =
    let w = s.w in
    let n = s.n in
    let nr : ℕ → ℕ → List ℤ → Near ℤ = λ i j l. near w n i j (at w l) in
    let rest : ℕ → ℕ → ℤ = λ i j. rest_near ints s.G (nr i j s.b) (nr i j s.h) (nr i j s.u) (nr i j s.v) (nr i j dh) (nr i j du) (nr i j dv) e in
    let rate : ℕ → ℕ → ℤ = λ i j. rate_near ints s.G (nr i j s.b) (nr i j s.h) (nr i j s.u) (nr i j s.v) (nr i j dh) (nr i j du) (nr i j dv) in (
      grid w n rest,
      grid-cong w n (λ i j p r. changed-at s dh du dv e i j p r)
          ∙ summed w n s.G e (at w s.b) (at w s.h) (at w s.u) (at w s.v) (at w dh) (at w du) (at w dv)
          ∙ split w n (energy_at s) rate rest e
          ∙ ap (λ x. energy4 s +ℤ e *ℤ x +ℤ e *ℤ e *ℤ grid w n rest) (grid-cong w n (λ i j p r. rate-at s dh du dv e i j p r)),
    )
