-- Corners on a wall (02, U5) in the request's words, and the corners that each cell uses. Assumes nothing.
use Rattle.std.specs.Prelude.{◌≡◌, refl, Bool, true, false, ◌||◌, ℕ, ◌+◌, ◌-◌, ◌≤◌, ◌<◌, ℤ, pos, ◌+ℤ◌, ◌*ℤ◌}
use Rattle.std.proofs.Common.{sym, ap, ◌∙◌, arith, eq-eqb, ne_eqb}
use Rattle.std.proofs.Math.Bool.{or-true}
use Rattle.model.specs.Numbers.{rnd}
use Rattle.model.specs.Grid.{at, lower, upper, on_wall}
use Rattle.model.specs.State.{State, boundary_of, walled_west, walled_south}
use Rattle.model.specs.Scheme.{Z, H, vorticity_at, to_west, to_south, corner_weight}
use Rattle.model.specs.Claims.{beside_two, beside_one, ordinary, WallCornerClaim, CellCornersClaim}
use Rattle.integers.specs.Ring.{con, ◌⊕◌, ◌⊗◌, ◌⊜◌, Identity, ring}
use Rattle.grid.specs.Cells.{next-inner, previous-inner}

-- ---- which sides have walls, by the kind

periodic-walls : (s : State) → s.kind ≡ 0 → (walled_west s ≡ false) × (walled_south s ≡ false)
unfolding boundary_of
periodic-walls s e = (rw e, rw e)

channel-walls : (s : State) → s.kind ≡ 1 → (walled_west s ≡ false) × (walled_south s ≡ true)
unfolding boundary_of
channel-walls s e = (rw e, rw e)

basin-walls : (s : State) → s.kind ≡ 2 → (walled_west s ≡ true) × (walled_south s ≡ true)
unfolding boundary_of
basin-walls s e = (rw e, rw e)

-- ---- a corner of a side

-- what the scheme asks of corner x on a side of w places: is it on a wall, and which places are beside it
record Beside (walled : Bool) (w x : ℕ) (wall : Bool) (low high : ℕ) : Type 0 where
  on : on_wall walled w x ≡ wall
  below : lower walled w x ≡ low
  above : upper walled w x ≡ high

-- without walls; at the first wall; at the last one; between them
along : {walled : Bool} {w x : ℕ} {l : ℕ} → walled ≡ false → lower false w x ≡ l → Beside walled w x false l x
along e k = record { on = rw e; below = rw e k; above = rw e }

first : {walled : Bool} {w : ℕ} → walled ≡ true → Beside walled w 0 true 0 0
first e = record { on = rw e; below = rw e; above = rw e (omega arith) }

last : {walled : Bool} {w : ℕ} → walled ≡ true → 1 ≤ w → Beside walled w w true (w - 1) (w - 1)
last {w = w} e h = record { on = rw (e, eq-eqb w w refl, ne_eqb w 0 (λ k. zero k h)); below = rw e; above = rw e (omega arith) }
  where
    zero : {w : ℕ} → w ≡ 0 → 1 ≤ w → ⊥
    zero e h = omega arith

between : {walled : Bool} {w x : ℕ} → walled ≡ true → 1 ≤ x → x < w → Beside walled w x false (x - 1) x
between {w = w} {x = x} e h l = record { on = rw (e, ne_eqb x 0 (λ k. zero k h), ne_eqb x w (λ k. same k l)); below = rw e; above = rw e (omega arith) }
  where
    zero : {x : ℕ} → x ≡ 0 → 1 ≤ x → ⊥
    zero e h = omega arith

    same : {x w : ℕ} → x ≡ w → x < w → ⊥
    same e h = omega arith

-- ---- a corner of the grid

twice : Identity 2 (λ a b. a ⊕ b ⊕ a ⊕ b ⊜ con (pos 2) ⊗ (a ⊕ b))
twice = ring tt

pairs : Identity 2 (λ a b. a ⊕ a ⊕ b ⊕ b ⊜ con (pos 2) ⊗ (a ⊕ b))
pairs = ring tt

four-times : Identity 1 (λ a. a ⊕ a ⊕ a ⊕ a ⊜ con (pos 4) ⊗ a)
four-times = ring tt

module _ (s : State) where
  abbrev h : ℕ → ℕ → ℤ
  h = at s.w s.h

module _ (s : State) {x y : ℕ} where
  -- its q, by what is beside it on either side: on a wall, and on none
  walled-at : {a b : Bool} {w e o n : ℕ} → (a || b) ≡ true → Beside (walled_west s) s.w x a w e → Beside (walled_south s) s.n y b o n
      → vorticity_at s x y ≡ rnd (pos 262144 *ℤ s.c) (h s e n +ℤ h s w n +ℤ h s e o +ℤ h s w o)
  unfolding vorticity_at Z H
  walled-at t p r = rw (p.on, r.on, t, p.below, p.above, r.below, r.above)

  other_at : Beside (walled_west s) s.w x false (to_west s x) x → Beside (walled_south s) s.n y false (to_south s y) y
      → vorticity_at s x y ≡ ordinary s x y
  unfolding vorticity_at Z H
  other_at p r = rw (p.on, r.on, p.below, p.above, r.below, r.above)

  -- the same row, the same column, or the same cell inside
  in_row : {a : Bool} {w e j : ℕ} → Beside (walled_west s) s.w x a w e → Beside (walled_south s) s.n y true j j
      → vorticity_at s x y ≡ beside_two s (h s e j) (h s w j)
  in_row {a} {w} {e} {j} p r = walled-at (or-true a) p r ∙ ap (rnd (pos 262144 *ℤ s.c)) (twice.at (h s e j) (h s w j))

  in-column : {b : Bool} {i o n : ℕ} → Beside (walled_west s) s.w x true i i → Beside (walled_south s) s.n y b o n
      → vorticity_at s x y ≡ beside_two s (h s i n) (h s i o)
  in-column {i = i} {o = o} {n = n} p r = walled-at refl p r ∙ ap (rnd (pos 262144 *ℤ s.c)) (pairs.at (h s i n) (h s i o))

  in_cell : {i j : ℕ} → Beside (walled_west s) s.w x true i i → Beside (walled_south s) s.n y true j j → vorticity_at s x y ≡ beside_one s (h s i j)
  in_cell {i} {j} p r = walled-at refl p r ∙ ap (rnd (pos 262144 *ℤ s.c)) (four-times.at (h s i j))

-- a place past the first has the one before it to its west or south
inside : {walled : Bool} {w x : ℕ} → walled ≡ true → 1 ≤ x → x < w → Beside walled w x false (lower false w x) x
inside {walled} {w} {x} e h l = let b = between e h l in record { on = b.on; below = b.below ∙ sym (previous-inner w x h l); above = b.above }

pub wall-corners : WallCornerClaim
wall-corners = record {
  periodic = λ s e. let a = periodic-walls s e in (rw a.0, rw a.1);
  channel = λ s e. let a = channel-walls s e in (rw a.0, rw a.1);
  basin = λ s e. let a = basin-walls s e in (rw a.0, rw a.1);
  channel-south = λ s x e. let a = channel-walls s e in in_row s (along a.0 refl) (first a.1);
  channel-north = λ s x e n. let a = channel-walls s e in in_row s (along a.0 refl) (last a.1 n);
  basin-south = λ s x e p q. let a = basin-walls s e in in_row s (between a.0 p q) (first a.1);
  basin-north = λ s x e p q n. let a = basin-walls s e in in_row s (between a.0 p q) (last a.1 n);
  basin-west = λ s y e p q. let a = basin-walls s e in in-column s (first a.0) (between a.1 p q);
  basin-east = λ s y e p q w. let a = basin-walls s e in in-column s (last a.0 w) (between a.1 p q);
  southwest = λ s e. let a = basin-walls s e in in_cell s (first a.0) (first a.1);
  southeast = λ s e w. let a = basin-walls s e in in_cell s (last a.0 w) (first a.1);
  northwest = λ s e n. let a = basin-walls s e in in_cell s (first a.0) (last a.1 n);
  northeast = λ s e w n. let a = basin-walls s e in in_cell s (last a.0 w) (last a.1 n);
  periodic-other = λ s x y e. let a = periodic-walls s e in other_at s (along a.0 refl) (along a.1 refl);
  channel-other = λ s x y e p q. let a = channel-walls s e in other_at s (along a.0 refl) (inside a.1 p q);
  basin-other = λ s x y e p q m n. let a = basin-walls s e in other_at s (inside a.0 p q) (inside a.1 m n);
}

-- ---- the corners of a cell

pub cell-corners : CellCornersClaim
unfolding corner_weight
cell-corners = record {
  periodic = λ s q row i j e. let a = periodic-walls s e in rw (a.0, a.1);
  channel = λ s q row i j e p. let a = channel-walls s e in rw (a.0, a.1, next-inner (s.n + 1) j (on p));
  basin = λ s q row i j e p r. let a = basin-walls s e in rw (a.0, a.1, next-inner (s.w + 1) i (on p), next-inner (s.n + 1) j (on r));
}
  where
    on : {i w : ℕ} → i < w → i + 1 < w + 1
    on p = omega arith
