-- From what the parts of a pass leave in the slices lent to the model's pass. Assumes nothing.
use mathlib.Core.Path.{◌≡◌, refl, sym, ap, subst, ◌∙◌}
use mathlib.Core.Bool.{Bool, true, false, cond}
use mathlib.Core.Logic.{inr}
use mathlib.Core.List.{List}
use Prim.Native.Nat.{ℕ, ◌+◌, ◌*◌, ◌≤◌, ◌<◌}
use native.Mathlib.Omega.{arith}
use lib.IntN.{ℤ, pos, ◌+ℤ◌, ◌*ℤ◌}
use lib.ListN.{length, get_or, take}
use Rattle.model.specs.Numbers.{rnd, tendency_scale, vorticity_limits, inflow_limits}
use Rattle.model.specs.Grid.{next, at, by_cell, filled}
use Rattle.model.specs.State.{State, with_flow, parameters_of, cells, corner_columns, corner_rows, corners, boundary_of, wall_west, wall_south, barrier_at, bars_west, bars_south, closed_west, closed_south, FieldWithin, WithinLimits}
use Rattle.model.specs.Scheme.{vorticity_at, vorticity, tendency_u, tendency_v}
use Rattle.model.specs.Step.{X, Y, new_depth, new_u, new_v, pass}
use Rattle.theorems.specs.Theorems.{theorems}
use Rattle.theorems.specs.Truth.{true-T, or-iff}
use Rattle.theorems.specs.RoundTrip.{bars-long}
use Rattle.theorems.specs.Stepping.{SameWalls, rests-west, rests-south}
use Rattle.integers.specs.Bounds.{Abs}
use Rattle.grid.specs.Cells.{next-lt}
use Rattle.grid.specs.CellFields.{length-by_cell, take-filled, at-by_cell, by_cell-each, by_cell-cong}
use Rattle.grid.specs.WritingLoops.{filled_whole}
use Rattle.grid.specs.Barred.{bars, Cleared, cleared-filled}
use Rattle.grid.specs.declared.Edge.{Edge}
use Rattle.grid.specs.declared.Edge.TheVariants.{West, South}
use Rattle.scheme.specs.Masking.{unbarred, u-masked, v-masked}
use Rattle.scheme.specs.Passing.{most_flow, X-size, Y-size}
use Rattle.step_pass.specs.Spaces.{moving, depth_by, Flows, DepthReady, VelocityReady}

-- what the potential vorticity loop has left in the first places of its slice
pub vorticity-is : (s : State) (q₀ : List ℤ) {q : List ℤ} {m : ℕ} → q ≡ filled (corners s) (vorticity s) q₀ → m ≡ corners s → take m q ≡ vorticity s
unfolding vorticity
vorticity-is s q₀ {q} e k = ap (λ m. take m q) k ∙ ap (take (corners s)) e ∙ take-filled (corners s) (vorticity s) q₀ (length-by_cell (corner_columns s) (corner_rows s) (vorticity_at s))

-- ---- a velocity after a pass of a base with velocities u and v, and the tendencies of s: 0 where a barrier stands, and else as if there
-- were none

module _ (s : State) (h u v q : List ℤ) (l : WithinLimits (with_flow s h u v)) (i j : ℕ) (p : i < s.w) (r : j < s.n) where
  abbrev b : State
  b = with_flow s h u v

  same : SameWalls s b
  unfolding closed_west closed_south
  same = record { west = λ i j. refl; south = λ i j. refl }

  pub u-held : new_u s b q i j ≡ cond (bars_west (barrier_at s i j)) (pos 0) (new_u (unbarred s) (moving (unbarred s) u v) q i j)
  unfolding new_u closed_west
  u-held = by (bars_west (barrier_at s i j)) refl
    where
      by : (bar : Bool) → bars_west (barrier_at s i j) ≡ bar → new_u s b q i j ≡ cond bar (pos 0) (new_u (unbarred s) (moving (unbarred s) u v) q i j)
      by true e = rests-west b s q same l i j p r ((or-iff (wall_west (boundary_of b.kind) i) (bars_west (barrier_at b i j))).1 (inr (true-T e)))
      by false e = ap (λ t. at b.w b.u i j +ℤ rnd t (tendency_scale *ℤ s.R)) (u-masked s q i j ∙ ap (λ bar. cond bar (pos 0) (tendency_u (unbarred s) q i j)) e)

  pub v-held : new_v s b q i j ≡ cond (bars_south (barrier_at s i j)) (pos 0) (new_v (unbarred s) (moving (unbarred s) u v) q i j)
  unfolding new_v closed_south
  v-held = by (bars_south (barrier_at s i j)) refl
    where
      by : (bar : Bool) → bars_south (barrier_at s i j) ≡ bar → new_v s b q i j ≡ cond bar (pos 0) (new_v (unbarred s) (moving (unbarred s) u v) q i j)
      by true e = rests-south b s q same l i j p r ((or-iff (wall_south (boundary_of b.kind) j) (bars_south (barrier_at b i j))).1 (inr (true-T e)))
      by false e = ap (λ t. at b.w b.v i j +ℤ rnd t (tendency_scale *ℤ s.R)) (v-masked s q i j ∙ ap (λ bar. cond bar (pos 0) (tendency_v (unbarred s) q i j)) e)

-- a field once 0 is on the edges that barriers close
cleared-field : {edge : Edge} {barriers : List ℕ} {d₀ d : List ℤ} → Cleared edge barriers 0 d₀ d → (w n : ℕ) (f g : ℕ → ℕ → ℤ) → 0 < w → length barriers ≤ w * n → d₀ ≡ by_cell w n g
    → ((i j : ℕ) → i < w → j < n → f i j ≡ cond (bars edge (get_or barriers (j * w + i) 0)) (pos 0) (g i j))
    → d ≡ by_cell w n f
cleared-field {d₀ = d₀} h w n f g z few e same =
    let long : length d₀ ≡ w * n = ap length e ∙ length-by_cell w n g in
    cleared-filled h w n f g d₀ z few (omega (arith, long)) (e ∙ sym (filled_whole (w * n) (by_cell w n g) d₀ long)) same ∙ filled_whole (w * n) (by_cell w n f) d₀ long

-- ---- a pass with the tendencies of s, from the base with the fields h, u and v

module _ (s : State) (inflow : List ℤ) (l : WithinLimits s) (h u v : List ℤ) (k : WithinLimits (with_flow s h u v)) where
  abbrev base : State
  base = with_flow s h u v

  -- a flow is small at every cell
  flows : {f : List ℤ} (g : ℕ → ℕ → ℤ) → f ≡ by_cell s.w s.n g → ((i j : ℕ) → i < s.w → j < s.n → Abs (g i j) most_flow) → Flows (cells s) f
  flows g z a =
      record {
        long = ap length z ∙ length-by_cell s.w s.n g;
        each = λ k p. subst (λ f. Abs (get_or f k (pos 0)) most_flow) (sym z) (by_cell-each s.w s.n (λ x. Abs x most_flow) l.columns.some a k p);
      }

  -- the flows are there
  module _ {x y : List ℤ} (e : (x ≡ by_cell s.w s.n (X s)) × (y ≡ by_cell s.w s.n (Y s))) where
    pub depth-ready : FieldWithin inflow_limits (cells s) inflow → DepthReady (parameters_of s) h x y inflow
    depth-ready r =
        record {
          columns = l.columns;
          rows = l.rows;
          depths = k.depths;
          xs = flows (X s) e.0 (λ i j p q. X-size l p q);
          ys = flows (Y s) e.1 (λ i j p q. Y-size l p q);
          entering = r;
        }

    -- the depth that is made of them is the model's
    pub depth_is : (i j : ℕ) → i < s.w → j < s.n → depth_by s.w s.n h x y inflow i j ≡ new_depth s base inflow i j
    unfolding depth_by new_depth
    depth_is i j p q =
        let east = next-lt s.w i l.columns.some in
        let north = next-lt s.n j l.rows.some in
        rw (e.0, e.1, at-by_cell s.w s.n (X s) (next s.w i) j east q, at-by_cell s.w s.n (X s) i j p q, at-by_cell s.w s.n (Y s) i (next s.n j) p north, at-by_cell s.w s.n (Y s) i j p q)

  pub velocity-ready : {q : List ℤ} → q ≡ vorticity s → VelocityReady (unbarred s) q u v
  velocity-ready e =
      record {
        given = record { state = search l; vorticity = subst (FieldWithin vorticity_limits (corners s)) (sym e) (theorems.own-vorticity s l) };
        ratio = l.ratio;
        us = k.us;
        vs = k.vs;
      }

  few : length s.barriers ≤ cells s
  few = omega (arith, bars-long s l)

  -- the flows x and y, the depths h', the velocities as if there were no barriers u₀ and v₀, and with them u' and v'
  pub passed : {q x y h' u₀ v₀ u' v' : List ℤ} → q ≡ vorticity s → (x ≡ by_cell s.w s.n (X s)) × (y ≡ by_cell s.w s.n (Y s)) → h' ≡ by_cell s.w s.n (depth_by s.w s.n h x y inflow)
      → (u₀ ≡ by_cell s.w s.n (new_u (unbarred s) (moving (unbarred s) u v) q)) × (v₀ ≡ by_cell s.w s.n (new_v (unbarred s) (moving (unbarred s) u v) q))
      → Cleared West s.barriers 0 u₀ u' → Cleared South s.barriers 0 v₀ v' → with_flow s h' u' v' ≡ pass base s inflow
  unfolding pass
  passed {q} w e f g a b =
      let some = l.columns.some in
      let hs = f ∙ by_cell-cong s.w s.n some (depth_is e) in
      let us = cleared-field a s.w s.n (new_u s base q) (new_u (unbarred s) (moving (unbarred s) u v) q) some few g.0 (u-held s h u v q k) in
      let vs = cleared-field b s.w s.n (new_v s base q) (new_v (unbarred s) (moving (unbarred s) u v) q) some few g.1 (v-held s h u v q k) in
      rw (hs, us, vs, w)
