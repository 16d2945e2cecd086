-- Mass, energy and enstrophy of the Arakawa-Lamb scheme on a torus of w columns and n rows, for any fluxes, Bernoulli function, weights
-- of each cell and closed edges. The laws are stated of the model's formulas; `Alg` writes them once more, over any type with a sum, a
-- difference and a product, for the solver to compute with. W is 01's V, a reserved word here. Assumes nothing.
use Rattle.std.specs.Prelude.{◌≡◌, refl, Bool, true, false, cond, ℕ, ◌+◌, ◌-◌, ◌<◌, T, ℤ, negsuc, neg_ℤ, ◌+ℤ◌, ◌-ℤ◌, ◌*ℤ◌}
use Rattle.std.proofs.Common.{sym, ap, ap₂, ◌∙◌}
use mathlib.Core.List.{[], ◌∷◌}
use Rattle.std.proofs.Math.IntN.{pos, +ℤ_idl, zero-*ℤ}
use Rattle.model.specs.Grid.{next, previous}
use Rattle.model.specs.Weights.{weights, weight_at, weighted}
use Rattle.model.specs.Scheme.{divergence, momentum_u, momentum_v, corner_weight}
use Rattle.integers.specs.Ring.{Expr, con, ◌⊕◌, ◌⊖◌, ◌⊗◌}
use Rattle.grid.specs.Sums.{grid, grid-cong, east-west}
use Rattle.grid.specs.Torus.{field, place, grid-law}

pub record Alg (R : Type 0) : Type 0 where
  pub add : R → R → R
  pub sub : R → R → R
  pub mul : R → R → R
  pub lit : ℤ → R

abbrev pub ints : Alg ℤ
ints = record { add = ◌+ℤ◌; sub = ◌-ℤ◌; mul = ◌*ℤ◌; lit = λ z. z }

abbrev pub exprs : Alg Expr
exprs = record { add = ◌⊕◌; sub = ◌⊖◌; mul = ◌⊗◌; lit = con }

-- a field around a cell: at x - 2 columns east and y - 2 rows north of it
abbrev pub Near : Type 0 → Type 0
Near R = ℕ → ℕ → R

-- the field a around the cell (i, j) of the torus
abbrev pub near : ℕ → ℕ → ℕ → ℕ → (ℕ → ℕ → ℤ) → Near ℤ
near w n i j a x y = a (place w i x) (place n j y)

-- ---- the formulas, for the solver

module _ {R : Type 0} (𝓐 : Alg R) where
  open 𝓐 use {add as ◌⊞◌, sub as ◌⊟◌, mul as ◌⊠◌, lit}

  infixl 60 ◌⊞◌ ◌⊟◌
  infixl 70 ◌⊠◌
  abbrev div : Near R → Near R → Near R
  div U W x y = U (x + 1) y ⊟ U x y ⊞ W x (y + 1) ⊟ W x y

  module _ (U W B P M E F : Near R) where
    abbrev tu : Near R
    tu x y =
        P x y ⊠ W x (y + 1)
        ⊞ M (x - 1) y ⊠ W (x - 1) (y + 1)
        ⊞ P (x - 1) y ⊠ W (x - 1) y
        ⊞ M x y ⊠ W x y
        ⊟ E x y ⊠ U (x + 1) y
        ⊞ E (x - 1) y ⊠ U (x - 1) y
        ⊟ lit (pos 786432) ⊠ (B x y ⊟ B (x - 1) y)

    abbrev tv : Near R
    tv x y =
        lit (pos 0) ⊟ P x y ⊠ U (x + 1) y
        ⊟ M x y ⊠ U x y
        ⊟ P x (y - 1) ⊠ U x (y - 1)
        ⊟ M x (y - 1) ⊠ U (x + 1) (y - 1)
        ⊟ F x y ⊠ W x (y + 1)
        ⊞ F x (y - 1) ⊠ W x (y - 1)
        ⊟ lit (pos 786432) ⊠ (B x y ⊟ B x (y - 1))

    -- the scaled rate of energy at the cell
    abbrev power : R
    power = lit (pos 2) ⊠ U 2 2 ⊠ tu 2 2 ⊞ lit (pos 2) ⊠ W 2 2 ⊠ tv 2 2 ⊟ lit (pos 1572864) ⊠ B 2 2 ⊠ div U W 2 2

  -- a row of weights over the corners ne, nw, sw, se
  abbrev weigh : Near R → ℤ → ℤ → ℤ → ℤ → Near R
  weigh q ne nw sw se x y = lit ne ⊠ q (x + 1) (y + 1) ⊞ lit nw ⊠ q x (y + 1) ⊞ lit sw ⊠ q x y ⊞ lit se ⊠ q (x + 1) y

-- with the rows P, M, E, F of 01's table
abbrev minus : ℤ
minus = negsuc 0

module _ {R : Type 0} (𝓐 : Alg R) (U W B q : Near R) where
  open 𝓐 use {add as ◌⊞◌, sub as ◌⊟◌, mul as ◌⊠◌, lit}

  infixl 60 ◌⊞◌ ◌⊟◌
  infixl 70 ◌⊠◌
  abbrev P : Near R
  P = weigh 𝓐 q (pos 2) (pos 1) (pos 2) (pos 1)

  abbrev M : Near R
  M = weigh 𝓐 q (pos 1) (pos 2) (pos 1) (pos 2)

  abbrev E : Near R
  E = weigh 𝓐 q (pos 1) (pos 1) minus minus

  abbrev F : Near R
  F = weigh 𝓐 q minus (pos 1) (pos 1) minus

  abbrev tuq : Near R
  tuq = tu 𝓐 U W B P M E F

  abbrev tvq : Near R
  tvq = tv 𝓐 U W B P M E F

  -- the scaled rate of enstrophy at the cell's southwest corner
  abbrev spinning : R
  spinning =
      q 2 2 ⊠ (tvq 2 2 ⊟ tvq 1 2 ⊞ tuq 2 1 ⊟ tuq 2 2)
      ⊞ lit (pos 3) ⊠ q 2 2 ⊠ q 2 2 ⊠ (div 𝓐 U W 2 2 ⊞ div 𝓐 U W 1 2 ⊞ div 𝓐 U W 2 1 ⊞ div 𝓐 U W 1 1)

-- ---- mass: what leaves a cell enters its neighbour

pub mass-law : (w n : ℕ) (U W : ℕ → ℕ → ℤ) → grid w n (divergence w n U W) ≡ pos 0
unfolding divergence
mass-law w n U W = grid-law (div exprs (field 0) (field 1) 2 2) tt w n [] (U ∷ W ∷ [])

-- ---- energy: closed edges have no flux and no tendency

-- Why the sum of 2U·Tu + 2V·Tv - 1,572,864·B·D is zero, whatever the weights are. Take the weights of one cell.
--   P and M: each of them multiplies a flux through its west or east edge and one through its south or north edge. Such a product stands
--     once in U-as-Tu, with a plus, and once in V-as-Tv, with a minus: P(i,j)·U(i,j)·V(i,j+1), for instance, in Tu(i,j) and in Tv(i,j+1).
--   E: it multiplies the fluxes through its west and its east edge, with a minus in Tu(i,j) and with a plus in Tu(i+1,j). F is the same
--     from south to north.
--   B: summed by parts, the differences of B along the fluxes are B times the divergence, which the last term takes away.
-- So each weight cancels against itself in its own cell. The solver finds just this: all products meet, and nothing is left.

from_zero : (x a b c d e f : ℤ) → neg_ℤ x -ℤ a -ℤ b -ℤ c -ℤ d +ℤ e -ℤ f ≡ pos 0 -ℤ x -ℤ a -ℤ b -ℤ c -ℤ d +ℤ e -ℤ f
from_zero x a b c d e f = ap (λ z. z -ℤ a -ℤ b -ℤ c -ℤ d +ℤ e -ℤ f) (sym (+ℤ_idl (neg_ℤ x)))

module _ (w n : ℕ) (U W B P M E F : ℕ → ℕ → ℤ) (i j : ℕ) where
  abbrev tv_at : ℤ
  tv_at = tv ints (near w n i j U) (near w n i j W) (near w n i j B) (near w n i j P) (near w n i j M) (near w n i j E) (near w n i j F) 2 2

  same-tv : momentum_v w n U W B P M E F i j ≡ tv_at
  unfolding momentum_v
  same-tv =
      let north = next n j in
      let south = previous n j in
      let east = next w i in
      from_zero (P i j *ℤ U east j) (M i j *ℤ U i j) (P i south *ℤ U i south) (M i south *ℤ U east south) (F i j *ℤ W i north) (F i south *ℤ W i south) (pos 786432 *ℤ (B i j -ℤ B i south))

-- where there is no flux, the mask on a tendency makes no difference to the work that it does
still : (U x : ℤ) → U ≡ pos 0 → pos 2 *ℤ U *ℤ x ≡ pos 0
still U x e = ap (λ z. pos 2 *ℤ z *ℤ x) e ∙ zero-*ℤ x

masked : (c : Bool) (U x : ℤ) → (T c → U ≡ pos 0) → pos 2 *ℤ U *ℤ cond c (pos 0) x ≡ pos 2 *ℤ U *ℤ x
masked true U x h = still U (pos 0) (h tt) ∙ sym (still U x (h tt))
masked false U x h = refl

module _ (w n : ℕ) (U W B P M E F : ℕ → ℕ → ℤ) (closed_u closed_w : ℕ → ℕ → Bool) where
  abbrev Tu : ℕ → ℕ → ℤ
  Tu = momentum_u w n U W B P M E F

  abbrev Tv : ℕ → ℕ → ℤ
  Tv = momentum_v w n U W B P M E F

  open-energy : grid w n (λ i j. pos 2 *ℤ U i j *ℤ Tu i j +ℤ pos 2 *ℤ W i j *ℤ tv_at w n U W B P M E F i j -ℤ pos 1572864 *ℤ B i j *ℤ divergence w n U W i j) ≡ pos 0
  unfolding momentum_u divergence
  open-energy = grid-law (power exprs (field 0) (field 1) (field 2) (field 3) (field 4) (field 5) (field 6)) tt w n [] (U ∷ W ∷ B ∷ P ∷ M ∷ E ∷ F ∷ [])

  pub energy-law : ((i j : ℕ) → i < w → j < n → T (closed_u i j) → U i j ≡ pos 0) → ((i j : ℕ) → i < w → j < n → T (closed_w i j) → W i j ≡ pos 0)
      → grid w n (λ i j.
      pos 2 *ℤ U i j *ℤ cond (closed_u i j) (pos 0) (momentum_u w n U W B P M E F i j)
      +ℤ pos 2 *ℤ W i j *ℤ cond (closed_w i j) (pos 0) (momentum_v w n U W B P M E F i j)
      -ℤ pos 1572864 *ℤ B i j *ℤ divergence w n U W i j) ≡ pos 0
  energy-law no-u no-w =
      grid-cong w n (λ i j p q.
      ap₂ (λ x y. x +ℤ y -ℤ pos 1572864 *ℤ B i j *ℤ divergence w n U W i j)
      (masked (closed_u i j) (U i j) (Tu i j) (no-u i j p q))
      (masked (closed_w i j) (W i j) (Tv i j) (no-w i j p q) ∙ ap (λ y. pos 2 *ℤ W i j *ℤ y) (same-tv w n U W B P M E F i j)))
      ∙ open-energy

-- ---- enstrophy: no edge is closed, and the weights are 01's

-- Around a corner the differences of B add to zero, so B drops out of η'. What is left of q·η' + 3q²·D4 is, for each flux, a sum of
-- products of two of the q near it. That these sums vanish is what the paper's conditions (3.28) and (3.29) ask of the weights, and
-- 01's table meets them. On a closed edge the tendency is 0, so that the sums at its corners lose terms: the claim is for grids without
-- closed edges.

module _ (w n : ℕ) (U W B q : ℕ → ℕ → ℤ) where
  abbrev weight : ℕ → ℕ → ℕ → ℤ
  weight = corner_weight w n q

  -- the tendencies at the cell (i, j), with these weights
  abbrev pub momentum_uq : ℕ → ℕ → ℤ
  momentum_uq = momentum_u w n U W B (weight 0) (weight 1) (weight 2) (weight 3)

  abbrev pub momentum_vq : ℕ → ℕ → ℤ
  momentum_vq = momentum_v w n U W B (weight 0) (weight 1) (weight 2) (weight 3)

  module _ (i j : ℕ) (p : i < w) (r : j < n) where
    abbrev by : (ℕ → ℕ → ℤ) → Near ℤ
    by = near w n i j

    tv-here : momentum_vq i j ≡ tvq ints (by U) (by W) (by B) (by q) 2 2
    unfolding corner_weight weighted weight_at weights
    tv-here = same-tv w n U W B (weight 0) (weight 1) (weight 2) (weight 3) i j ∙ rw (east-west n j r)

    tv-west : momentum_vq (previous w i) j ≡ tvq ints (by U) (by W) (by B) (by q) 1 2
    unfolding corner_weight weighted weight_at weights
    tv-west = same-tv w n U W B (weight 0) (weight 1) (weight 2) (weight 3) (previous w i) j ∙ rw (east-west w i p, east-west n j r)

    tu-here : momentum_uq i j ≡ tuq ints (by U) (by W) (by B) (by q) 2 2
    unfolding momentum_u corner_weight weighted weight_at weights
    tu-here = rw (east-west w i p)

    tu-south : momentum_uq i (previous n j) ≡ tuq ints (by U) (by W) (by B) (by q) 2 1
    unfolding momentum_u corner_weight weighted weight_at weights
    tu-south = rw (east-west w i p, east-west n j r)

    d-west : divergence w n U W (previous w i) j ≡ div ints (by U) (by W) 1 2
    unfolding divergence
    d-west = rw (east-west w i p)

    d-south : divergence w n U W i (previous n j) ≡ div ints (by U) (by W) 2 1
    unfolding divergence
    d-south = rw (east-west n j r)

    d-both : divergence w n U W (previous w i) (previous n j) ≡ div ints (by U) (by W) 1 1
    unfolding divergence
    d-both = rw (east-west w i p, east-west n j r)

  pub enstrophy-law : grid w n (λ i j.
      q i j *ℤ (momentum_vq i j -ℤ momentum_vq (previous w i) j +ℤ momentum_uq i (previous n j) -ℤ momentum_uq i j)
      +ℤ pos 3 *ℤ q i j *ℤ q i j
      *ℤ (divergence w n U W i j +ℤ divergence w n U W (previous w i) j +ℤ divergence w n U W i (previous n j) +ℤ divergence w n U W (previous w i) (previous n j))) ≡ pos 0
  unfolding divergence
  enstrophy-law =
      grid-cong w n (λ i j p r.
      λ k.
      q i j *ℤ (tv-here i j p r k -ℤ tv-west i j p r k +ℤ tu-south i j p r k -ℤ tu-here i j p r k)
      +ℤ pos 3 *ℤ q i j *ℤ q i j *ℤ (divergence w n U W i j +ℤ d-west i j p r k +ℤ d-south i j p r k +ℤ d-both i j p r k))
      ∙ grid-law (spinning exprs (field 0) (field 1) (field 2) (field 3)) tt w n [] (U ∷ W ∷ B ∷ q ∷ [])
