-- The potential vorticity of a state within the limits is at most 1,966,080 from zero, so it may be lent to the tendency call. Assumes nothing.
use Rattle.std.specs.Prelude.{◌≡◌, refl, Bool, true, false, cond, ◌||◌, ℕ, ◌*◌, ◌/◌, ◌%◌, ◌≤◌, ◌<◌, pos, ◌+ℤ◌, ◌-ℤ◌, ◌*ℤ◌}
use Rattle.std.proofs.Common.{sym, subst, le_trans, mod-lt, div-lt_iff_lt-mul, mul_comm, arith, lit≤}
use Rattle.std.proofs.Math.IntN.{nat_abs}
use Rattle.model.specs.Numbers.{vorticity_limits}
use Rattle.model.specs.Grid.{at, on_wall}
use Rattle.model.specs.State.{State, walled_west, walled_south, corner_columns, corner_rows, corners, FieldWithin, WithinLimits}
use Rattle.model.specs.Scheme.{to_west, to_south, Z, H, vorticity_at, vorticity}
use Rattle.model.specs.Claims.{OwnVorticityClaim, VorticityClaim}
use Rattle.std.proofs.lemmas.Int.{unsigned_abs-mul}
use Rattle.integers.specs.Bounds.{within-abs}
use Rattle.integers.specs.Magnitudes.{coriolis-size, absolute-vorticity-size, depths-least, least_size}
use Rattle.grid.specs.Cells.{cell-lt, previous-lt}
use Rattle.grid.specs.Corners.{corners-some, lower-lt, upper_lt, inner}
use Rattle.grid.specs.CellFields.{length-by_cell, get_or-by_cell}
use Rattle.integers.specs.Rounding.{rnd-size}
use Rattle.theorems.specs.Filling.{vorticity-fill}

-- 262,144 · 30,000 is 1,966,080 · 4,000
quotient : (x a b : ℕ) → x ≤ 30000 → 4000 ≤ b → a ≡ 262144 * x → a ≤ 1966080 * b
quotient x a b h k e = omega arith

module _ (s : State) (l : WithinLimits s) (x y : ℕ) (p : x < corner_columns s) (r : y < corner_rows s) where
  -- on a wall Z is c; elsewhere the corner is the southwest one of a cell
  z-size : (a b : Bool) → (a ≡ false → x < s.w) → (b ≡ false → y < s.n)
      → nat_abs (cond (a || b) s.c (s.c +ℤ at s.w s.v x y -ℤ at s.w s.v (to_west s x) y +ℤ at s.w s.u x (to_south s y) -ℤ at s.w s.u x y)) ≤ 30000
  z-size true b f g = le_trans (coriolis-size l.coriolis).abs (lit≤ tt)
  z-size false true f g = le_trans (coriolis-size l.coriolis).abs (lit≤ tt)
  z-size false false f g =
      let i = f refl in
      let j = g refl in
      let here = cell-lt i j in
      let west = cell-lt (previous-lt s.w x l.columns.some) j in
      let south = cell-lt i (previous-lt s.n y l.rows.some) in
      (absolute-vorticity-size l.coriolis (l.vs.each _ here) (l.vs.each _ west) (l.us.each _ south) (l.us.each _ here)).abs

  own-size : nat_abs (vorticity_at s x y) ≤ 1966080
  unfolding vorticity_at Z H
  own-size =
      let a = walled_west s in
      let b = walled_south s in
      let east = upper_lt a l.columns.some p in
      let west = lower-lt a l.columns.some p in
      let north = upper_lt b l.rows.some r in
      let south = lower-lt b l.rows.some r in
      let h = l.depths.each in
      let z : nat_abs (Z s x y) ≤ 30000 = z-size (on_wall a s.w x) (on_wall b s.n y) (λ e. (inner a p e).place) (λ e. (inner b r e).place) in
      let d : 4000 ≤ nat_abs (H s x y) = least_size 4000 _ (depths-least (h _ (cell-lt east north)) (h _ (cell-lt west north)) (h _ (cell-lt east south)) (h _ (cell-lt west south))) in
      rnd-size 1966080 (pos 262144 *ℤ Z s x y) (H s x y) (le_trans (lit≤ tt) d) (quotient (nat_abs (Z s x y)) (nat_abs (pos 262144 *ℤ Z s x y)) (nat_abs (H s x y)) z d (unsigned_abs-mul (pos 262144) (Z s x y)))

pub within-limit : OwnVorticityClaim
unfolding vorticity vorticity_limits
within-limit s l =
    let w = corner_columns s in
    let n = corner_rows s in
    let some : 1 ≤ w = corners-some (walled_west s) l.columns.some in
    record {
      long = length-by_cell w n (vorticity_at s);
      each = λ k h.
          let p : k % w < w = mod-lt k some in
          let r : k / w < n = (div-lt_iff_lt-mul some).1 (rw (mul_comm n w) h) in
          rw (get_or-by_cell w n (vorticity_at s) k h) (within-abs 1999999 (vorticity_at s (k % w) (k / w)) (le_trans (own-size s l (k % w) (k / w) p r) (lit≤ tt)));
    }

pub vorticity-within : VorticityClaim
vorticity-within s d d' p =
    let f = vorticity-fill s d d' p in (f.corner, subst (FieldWithin vorticity_limits (corners s)) (sym f.first) (within-limit s f.inside), f.rest)
