-- A state, its closed edges, and what it is to be within the limits.
use Rattle.std.specs.Prelude.{Option, Some, None, Bool, true, false, cond, ◌||◌, ◌≡◌, List, map, ℕ, ◌+◌, ◌*◌, ◌/◌, ◌%◌, ◌≤◌, ◌<◌, T, eqb, ℤ, pos, length, get_or, take}
use Rattle.std.specs.Borrow.{Bor, MutBor}
use denote.Triple.Both.{Both}
use Rattle.model.specs.Numbers.{Limits, Within, depth_limits, bottom_limits, velocity_limits, gravity_limits, coriolis_limits, ratio_limits, barrier_limits, longest_side}
use Rattle.model.specs.Grid.{at, corners_of}
use Rattle.model.specs.declared.Parameters.{Parameters}
use Rattle.model.specs.declared.Lent.{Lent}
use Rattle.model.specs.declared.LentMut.{LentMut}
use Rattle.model.specs.declared.Boundary.TheVariants.{Periodic, Channel, Basin}
use Rattle.model.specs.declared.Boundary.{Boundary}

-- 01's state. G is gravity, c the Coriolis parameter times spacing, R the spacing over the time step.
-- h is the depth and b the bottom height of a cell, u the velocity at its west edge, v that at its south edge. `barriers` (02: piers) are
-- bytes: bit 0 closes the cell's west edge, bit 1 its south edge.
pub record State : Type 0 where
  pub w : ℕ
  pub n : ℕ
  pub kind : ℕ
  pub G : ℤ
  pub c : ℤ
  pub R : ℤ
  pub h : List ℤ
  pub b : List ℤ
  pub u : List ℤ
  pub v : List ℤ
  pub barriers : List ℕ

-- the state that a call takes as parameters and five slices, and its parameters
abbrev pub state_of : Parameters → (h b u v : List ℤ) (barriers : List ℕ) → State
state_of p h b u v barriers =
    record { w = p.w; n = p.n; kind = p.kind; G = p.g; c = p.c; R = p.r; h = h; b = b; u = u; v = v; barriers = barriers }

-- the same of references: as a `requires` names them; at entry, as an `ensures` does; and at exit, of a call that steps h, u and v. The first
-- two are of slices that a call only reads. A slice that it changes is a reference of another type, a `MutBor`: of it a clause writes out
-- what it was and is
abbrev pub lent : Parameters → (h b u v : Bor (List ℤ)) (barriers : Bor (List ℕ)) → State
lent p h b u v barriers = state_of p h.now b.now u.now v.now barriers.now

abbrev pub before : {H B U W O : Type 0} → Parameters → Both (Bor (List ℤ)) H → Both (Bor (List ℤ)) B → Both (Bor (List ℤ)) U
    → Both (Bor (List ℤ)) W → Both (Bor (List ℕ)) O → State
before p h b u v barriers = lent p h.entry b.entry u.entry v.entry barriers.entry

abbrev pub after : {B O : Type 0} → Parameters → Both (MutBor (List ℤ)) (MutBor (List ℤ)) → Both (Bor (List ℤ)) B
    → Both (MutBor (List ℤ)) (MutBor (List ℤ)) → Both (MutBor (List ℤ)) (MutBor (List ℤ)) → Both (Bor (List ℕ)) O → State
after p h b u v barriers = state_of p h.exit.now b.entry.now u.exit.now v.exit.now barriers.entry.now

abbrev pub lent_state : Lent → State
lent_state s = state_of s.p s.h.now s.b.now s.u.now s.v.now s.barriers.now

-- the same of one that is lent to be stepped; what a step leaves of that: the same slices, with other numbers in those of h, u and v alone
abbrev pub state_at : LentMut → State
state_at s = state_of s.p s.h.now s.b.now s.u.now s.v.now s.barriers.now

abbrev pub written : LentMut → (h u v : List ℤ) → LentMut
written s h u v = record s { h = record s.h { now = h }; u = record s.u { now = u }; v = record s.v { now = v } }

abbrev pub SameSlices : LentMut → LentMut → Type 0
SameSlices s t = t ≡ written s t.h.now t.u.now t.v.now

abbrev pub parameters_of : State → Parameters
parameters_of s = record { w = s.w; n = s.n; kind = s.kind; g = s.G; c = s.c; r = s.R }

abbrev pub cells : State → ℕ
cells s = s.w * s.n

-- the state with other depths and velocities
abbrev pub with_flow : State → (h u v : List ℤ) → State
with_flow s h u v = state_of (parameters_of s) h s.b u v s.barriers

-- ---- the fields alone

-- five lent slices, as a reader fills them
pub record Fields : Type 0 where
  pub h : List ℤ
  pub b : List ℤ
  pub u : List ℤ
  pub v : List ℤ
  pub barriers : List ℕ

-- the same of references, as `lent` and `before` are; and at exit, where the call fills all five
abbrev pub slices : (h b u v : MutBor (List ℤ)) (barriers : MutBor (List ℕ)) → Fields
slices h b u v barriers = record { h = h.now; b = b.now; u = u.now; v = v.now; barriers = barriers.now }

abbrev pub slices_before : {H B U W O : Type 0} → Both (MutBor (List ℤ)) H → Both (MutBor (List ℤ)) B → Both (MutBor (List ℤ)) U
    → Both (MutBor (List ℤ)) W → Both (MutBor (List ℕ)) O → Fields
slices_before h b u v barriers = slices h.entry b.entry u.entry v.entry barriers.entry

abbrev pub slices_after : (h b u v : Both (MutBor (List ℤ)) (MutBor (List ℤ))) (barriers : Both (MutBor (List ℕ)) (MutBor (List ℕ))) → Fields
slices_after h b u v barriers = slices h.exit b.exit u.exit v.exit barriers.exit

-- the state in their first w·n places
abbrev pub state_from : Parameters → Fields → State
state_from p d =
    let m = p.w * p.n in
    state_of p (take m d.h) (take m d.b) (take m d.u) (take m d.v) (take m d.barriers)

-- ---- the boundary (01: seam)

-- the boundary that a kind's number stands for, if any
unfoldable pub boundary_of : ℕ → Option Boundary
boundary_of k = cond (eqb k 0) (Some Periodic) (cond (eqb k 1) (Some Channel) (cond (eqb k 2) (Some Basin) None))

abbrev pub known : Option Boundary → Bool
known (Some b) = true
known None = false

-- where a boundary has walls: whether the west edges of column i are closed, and the south edges of row j
abbrev pub wall_west : Option Boundary → ℕ → Bool
wall_west (Some Periodic) i = false
wall_west (Some Channel) i = false
wall_west (Some Basin) i = eqb i 0
wall_west None i = false

abbrev pub wall_south : Option Boundary → ℕ → Bool
wall_south (Some Periodic) j = false
wall_south (Some Channel) j = eqb j 0
wall_south (Some Basin) j = eqb j 0
wall_south None j = false

-- ---- corners (02, U5)

-- whether rows end at walls, in the west and in the east, and columns in the south and in the north: the wrap makes the wall along the first
-- edges of a side the wall at its other end too
abbrev pub walled_west : State → Bool
walled_west s = wall_west (boundary_of s.kind) 0

abbrev pub walled_south : State → Bool
walled_south s = wall_south (boundary_of s.kind) 0

-- the grid of corners, which potential vorticity is held at: corner (x, y) has index y·corner_columns + x. A side with walls has corners of its
-- own at either end: kind 0 has w by n corners, kind 1 w by n + 1, kind 2 w + 1 by n + 1
abbrev pub corner_columns : State → ℕ
corner_columns s = corners_of (walled_west s) s.w

abbrev pub corner_rows : State → ℕ
corner_rows s = corners_of (walled_south s) s.n

abbrev pub corners : State → ℕ
corners s = corner_columns s * corner_rows s

-- ---- barriers (02: piers)

-- a cell's byte, 0 past the end of them; whether a byte closes the west edge, and the south edge
abbrev pub barrier_at : State → ℕ → ℕ → ℕ
barrier_at s i j = get_or s.barriers (j * s.w + i) 0

abbrev pub bars_west : ℕ → Bool
bars_west x = eqb (x % 2) 1

abbrev pub bars_south : ℕ → Bool
bars_south x = eqb (x / 2 % 2) 1

-- as whole numbers, which test 4 takes
abbrev pub barrier_numbers : State → List ℤ
barrier_numbers s = map pos s.barriers

-- ---- closed edges

-- whether the west edge, and the south edge, of cell (i, j) is closed: by the boundary or by a barrier. All else goes by these two.
unfoldable pub closed_west : State → ℕ → ℕ → Bool
closed_west s i j = wall_west (boundary_of s.kind) i || bars_west (barrier_at s i j)

unfoldable pub closed_south : State → ℕ → ℕ → Bool
closed_south s i j = wall_south (boundary_of s.kind) j || bars_south (barrier_at s i j)

-- no edge is closed: the grid wraps both ways, and there is no barrier
pub record OpenEverywhere (s : State) : Type 0 where
  pub west : (i j : ℕ) → i < s.w → j < s.n → closed_west s i j ≡ false
  pub south : (i j : ℕ) → i < s.w → j < s.n → closed_south s i j ≡ false

-- ---- within the limits

pub record Side (w : ℕ) : Type 0 where
  pub some : 1 ≤ w
  pub most : w ≤ longest_side

-- m numbers, each within the limits
pub record FieldWithin (l : Limits) (m : ℕ) (f : List ℤ) : Type 0 where
  pub long : length f ≡ m
  pub each : (k : ℕ) → k < m → Within l (get_or f k (pos 0))

-- each part meets its bound, each field has w·n numbers, and each closed edge has velocity 0
pub record WithinLimits (s : State) : Type 0 where
  pub columns : Side s.w
  pub rows : Side s.n
  pub boundary : T (known (boundary_of s.kind))
  pub gravity : Within gravity_limits s.G
  pub coriolis : Within coriolis_limits s.c
  pub ratio : Within ratio_limits s.R
  pub depths : FieldWithin depth_limits (cells s) s.h
  pub bottoms : FieldWithin bottom_limits (cells s) s.b
  pub us : FieldWithin velocity_limits (cells s) s.u
  pub vs : FieldWithin velocity_limits (cells s) s.v
  pub bars : FieldWithin barrier_limits (cells s) (barrier_numbers s)
  pub still-west : (i j : ℕ) → i < s.w → j < s.n → T (closed_west s i j) → at s.w s.u i j ≡ pos 0
  pub still-south : (i j : ℕ) → i < s.w → j < s.n → T (closed_south s i j) → at s.w s.v i j ≡ pos 0
