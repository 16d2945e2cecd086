-- What is read around a cell is the model's. Assumes nothing.
use Rattle.std.specs.Prelude.{◌≡◌, refl, Bool, true, false, cond, List, ℕ, ◌<◌, ℤ, pos, ◌+ℤ◌, ◌-ℤ◌, ◌*ℤ◌, ◌≤ℤ◌}
use Rattle.std.proofs.Common.{sym, subst, ◌∙◌}
use Rattle.std.proofs.Math.Path.{ap}
use Rattle.std.proofs.Math.IntN.{+ℤ_assoc}
use Rattle.std.proofs.lemmas.Bool.{or_parts}
use Rattle.std.proofs.Math.ListN.{get_or}
use Rattle.model.specs.Numbers.{rnd, depth_limits}
use Rattle.model.specs.Grid.{on_wall}
use Rattle.model.specs.State.{State, walled_west, walled_south, corner_columns, corner_rows, FieldWithin}
use Rattle.model.specs.Scheme.{corner_weight, flux_u, flux_v, B, Z, H}
use Rattle.model.specs.Step.{X, Y}
use Rattle.grid.specs.Cells.{previous-next}
use Rattle.grid.specs.Stencils.{IsAround}
use Rattle.integers.specs.Order.{≤_trans}
use Rattle.integers.specs.Bounds.{Abs, abs-as}
use Rattle.integers.specs.Magnitudes.{depths-size, depths-least}
use Rattle.grid.specs.Corners.{Corner, on_a_wall, Below4, AreCells, AreCorners, inner}
use Rattle.grid.specs.declared.Stencil.{Stencil}
use Rattle.grid.specs.declared.Corners.{Corners}
use Rattle.scheme.specs.Shares.{flux_at, squares_at, geopotential_at, weighted_by, weights_in, fluxes_in}
use Rattle.scheme.specs.declared.Weights.{Weights}
use Rattle.scheme.specs.declared.Fluxes.{Fluxes}

-- ---- at a corner

-- on a wall velocities do not enter; elsewhere they are the same
masked : (wall : Bool) (z : ℤ) {x y : ℤ} → (wall ≡ false → x ≡ y) → cond wall z x ≡ cond wall z y
masked true z e = refl
masked false z e = e refl

-- the depth of four cells divides, and is small
pub divides : {m : ℕ} {h : List ℤ} {a : Corners ℕ} {z : ℤ} → FieldWithin depth_limits m h → Below4 m a
    → z ≡ get_or h a.ne (pos 0) +ℤ get_or h a.nw (pos 0) +ℤ get_or h a.se (pos 0) +ℤ get_or h a.sw (pos 0)
    → Abs z 400000 × (pos 1 ≤ℤ z)
divides f b e =
    let h = f.each in (
      abs-as e (depths-size (h _ b.ne) (h _ b.nw) (h _ b.se) (h _ b.sw)),
      subst (λ (x : ℤ). pos 1 ≤ℤ x) (sym e) (≤_trans (record { le = tt }) (depths-least (h _ b.ne) (h _ b.nw) (h _ b.se) (h _ b.sw))),
    )

module _ (s : State) {x y : ℕ} {a : Corners ℕ} (c : Corner s.kind s.w s.n x y) (r : AreCells s.kind s.w s.n x y a) where
  pub absolute-vorticity-around :
      cond (on_a_wall s.kind s.w s.n x y) s.c
      (s.c +ℤ get_or s.v a.ne (pos 0) -ℤ get_or s.v a.nw (pos 0) +ℤ get_or s.u a.se (pos 0) -ℤ get_or s.u a.ne (pos 0))
      ≡ Z s x y
  unfolding Z
  absolute-vorticity-around =
      masked (on_a_wall s.kind s.w s.n x y) s.c (λ o.
      let n = or_parts (on_wall (walled_west s) s.w x) (on_wall (walled_south s) s.n y) o in
      let p = inner (walled_west s) c.column n.0 in
      let q = inner (walled_south s) c.row n.1 in
      rw (r.ne, r.nw, r.se, p.below, p.above, q.below, q.above))

  pub depth-around : get_or s.h a.ne (pos 0) +ℤ get_or s.h a.nw (pos 0) +ℤ get_or s.h a.se (pos 0) +ℤ get_or s.h a.sw (pos 0) ≡ H s x y
  unfolding H
  depth-around = rw (r.ne, r.nw, r.se, r.sw)

-- ---- at a cell

-- its weights, by its corners
pub weights-around : (s : State) {i j : ℕ} {a : Corners ℕ} → AreCorners (corner_columns s) (corner_rows s) i j a → (q : List ℤ) (c : Corners ℤ) (w : Weights ℤ)
    → (c.ne ≡ get_or q a.ne (pos 0)) × (c.nw ≡ get_or q a.nw (pos 0)) × (c.sw ≡ get_or q a.sw (pos 0)) × (c.se ≡ get_or q a.se (pos 0))
    → (w.p ≡ weighted_by 0 c) × (w.m ≡ weighted_by 1 c) × (w.e ≡ weighted_by 2 c) × (w.f ≡ weighted_by 3 c)
    → w ≡ weights_in s q i j
unfolding corner_weight
weights-around s r q c w k e = rw (e.0, e.1, e.2, e.3, k.0, k.1, k.2, k.3, r.ne, r.nw, r.sw, r.se)

module _ (s : State) {i j : ℕ} {a : Stencil} (r : IsAround s.w s.n i j a) where
  pub fluxes-around : (f : Fluxes) → i < s.w → j < s.n
      → (f.west ≡ flux_at s.u s.h a.here a.west) × (f.east ≡ flux_at s.u s.h a.east a.here) × (f.south ≡ flux_at s.v s.h a.here a.south) × (f.north ≡ flux_at s.v s.h a.north a.here)
      → f ≡ fluxes_in s i j
  unfolding flux_u flux_v
  fluxes-around f p q e = rw (e.0, e.1, e.2, e.3, r.here, r.west, r.east, r.south, r.north, previous-next p, previous-next q)

  pub bernoulli-around : squares_at s.u a.here a.east +ℤ squares_at s.v a.here a.north +ℤ geopotential_at s.G s.h s.b a.here ≡ B s i j
  unfolding B
  bernoulli-around =
      let v = get_or s.v a.here (pos 0) in
      let v' = get_or s.v a.north (pos 0) in
      ap (λ z. z +ℤ geopotential_at s.G s.h s.b a.here) (sym (+ℤ_assoc (squares_at s.u a.here a.east) (v *ℤ v) (v' *ℤ v'))) ∙ rw (r.here, r.east, r.north)

  pub x-around : rnd (flux_at s.u s.h a.here a.west) (pos 2 *ℤ s.R) ≡ X s i j
  unfolding X flux_u
  x-around = rw (r.here, r.west)

  pub y-around : rnd (flux_at s.v s.h a.here a.south) (pos 2 *ℤ s.R) ≡ Y s i j
  unfolding Y flux_v
  y-around = rw (r.here, r.south)
