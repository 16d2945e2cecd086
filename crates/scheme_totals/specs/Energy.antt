-- The energy of a cell, as code reads it, and how large it becomes. Assumes nothing.
use Rattle.std.specs.Prelude.{◌≡◌, refl, List, [], ◌∷◌, ℕ, ◌<◌, ℤ, pos, ◌+ℤ◌, ◌*ℤ◌, get_or}
use Rattle.model.specs.Numbers.{Within, gravity_limits, depth_limits, bottom_limits, velocity_limits}
use Rattle.model.specs.State.{State, state_of, parameters_of, cells}
use Rattle.model.specs.Totals.{energy_at, energy4}
use Rattle.integers.specs.Ring.{Expr, var, con, ◌⊕◌, ◌⊗◌}
use Rattle.integers.specs.Bounds.{Abs, Sizes, ∎, ◌◂◌, size}
use Rattle.integers.specs.Magnitudes.{depth-size, bottom-size, velocity-size, gravity-size}
use Rattle.grid.specs.Cells.{cell-lt, previous-lt}
use Rattle.grid.specs.Stencils.{IsAround}
use Rattle.grid.specs.declared.Stencil.{Stencil}
use Rattle.scheme.specs.Ready.{ReadsAt, reads, StateReady}

-- ---- bounds, for a state within the limits

abbrev pub most_kinetic : ℕ
most_kinetic = 5000000000000

abbrev pub most_potential : ℕ
most_potential = 600000000000000

-- two edges, and the cell
abbrev pub most_energy : ℕ
most_energy = 610000000000000

-- ---- of fields, by index

abbrev pub kinetic_at : (h x : List ℤ) → ℕ → ℕ → ℤ
kinetic_at h x k l = (get_or h l (pos 0) +ℤ get_or h k (pos 0)) *ℤ (get_or x k (pos 0) *ℤ get_or x k (pos 0))

abbrev pub potential_at : ℤ → (h b : List ℤ) → ℕ → ℤ
potential_at g h b k = pos 2 *ℤ g *ℤ get_or h k (pos 0) *ℤ (get_or h k (pos 0) +ℤ pos 2 *ℤ get_or b k (pos 0))

abbrev pub kinetic_expr : Expr
kinetic_expr = (var 1 ⊕ var 2) ⊗ (var 0 ⊗ var 0)

abbrev pub potential_expr : Expr
potential_expr = con (pos 2) ⊗ var 0 ⊗ var 1 ⊗ (var 1 ⊕ con (pos 2) ⊗ var 2)

abbrev pub energy_expr : Expr
energy_expr = var 0 ⊕ var 1 ⊕ var 2

-- the numbers of each, and their sizes
module _ {h x : List ℤ} {k l : ℕ} where
  pub kinetic-sizes : ReadsAt velocity_limits x k → ReadsAt depth_limits h l → ReadsAt depth_limits h k
      → Sizes (get_or x k (pos 0) ∷ get_or h l (pos 0) ∷ get_or h k (pos 0) ∷ []) (5000 ∷ 100000 ∷ 100000 ∷ [])
  kinetic-sizes a b c = velocity-size a.value ◂ depth-size b.value ◂ depth-size c.value ◂ ∎

  pub kinetic-size : ReadsAt velocity_limits x k → ReadsAt depth_limits h l → ReadsAt depth_limits h k → Abs (kinetic_at h x k l) most_kinetic
  kinetic-size a b c = size kinetic_expr (kinetic-sizes a b c) tt

module _ {g : ℤ} {h b : List ℤ} {k : ℕ} where
  pub potential-sizes : Within gravity_limits g → ReadsAt depth_limits h k → ReadsAt bottom_limits b k
      → Sizes (g ∷ get_or h k (pos 0) ∷ get_or b k (pos 0) ∷ []) (10000 ∷ 100000 ∷ 100000 ∷ [])
  potential-sizes a b c = gravity-size a ◂ depth-size b.value ◂ bottom-size c.value ◂ ∎

  pub potential-size : Within gravity_limits g → ReadsAt depth_limits h k → ReadsAt bottom_limits b k → Abs (potential_at g h b k) most_potential
  potential-size a b c = size potential_expr (potential-sizes a b c) tt

-- ---- of a state

-- the parts of a cell's energy, from its index and those to the west and to the south
module _ {s : State} (l : StateReady s) {here west south : ℕ} (p : here < cells s) (q : west < cells s) (r : south < cells s) where
  pub energy-sizes : Sizes (kinetic_at s.h s.u here west ∷ kinetic_at s.h s.v here south ∷ potential_at s.G s.h s.b here ∷ []) (most_kinetic ∷ most_kinetic ∷ most_potential ∷ [])
  energy-sizes =
      let depth = reads l.depths p in
      kinetic-size (reads l.us p) (reads l.depths q) depth ◂ kinetic-size (reads l.vs p) (reads l.depths r) depth ◂ potential-size l.gravity depth (reads l.bottoms p) ◂ ∎

module _ (s : State) {i j : ℕ} where
  -- what is read around a cell is the model's
  pub energy-around : {a : Stencil} → IsAround s.w s.n i j a
      → kinetic_at s.h s.u a.here a.west +ℤ kinetic_at s.h s.v a.here a.south +ℤ potential_at s.G s.h s.b a.here ≡ energy_at s i j
  unfolding energy_at
  energy-around r = rw (r.here, r.west, r.south)

  pub energy-size : StateReady s → i < s.w → j < s.n → Abs (energy_at s i j) most_energy
  unfolding energy_at
  energy-size l p q =
      size energy_expr
      (energy-sizes l (cell-lt p q) (cell-lt (previous-lt s.w i l.columns.some) q) (cell-lt p (previous-lt s.n j l.rows.some)))
      tt

-- barriers do not enter: the energy of the state without them is its own
pub energy-barred : (s : State) → energy4 (state_of (parameters_of s) s.h s.b s.u s.v []) ≡ energy4 s
unfolding energy_at energy4
energy-barred s = refl
