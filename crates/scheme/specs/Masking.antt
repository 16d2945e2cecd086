-- What barriers do to tendencies: they put 0 on the edges that they close, and change nothing else. Assumes nothing.
use Rattle.std.specs.Prelude.{◌≡◌, refl, Bool, true, false, cond, ◌||◌, List, [], ℕ, ℤ, pos}
use Rattle.std.proofs.Common.{sym}
use Rattle.std.proofs.Math.Bool.{or-false}
use Rattle.model.specs.State.{State, state_of, parameters_of, boundary_of, wall_west, wall_south, barrier_at, bars_west, bars_south, closed_west, closed_south}
use Rattle.model.specs.Scheme.{flux_u, flux_v, D, B, Tu, Tv, tendency_u, tendency_v, h_tendencies}

-- the state without its barriers
abbrev pub unbarred : State → State
unbarred s = state_of (parameters_of s) s.h s.b s.u s.v []

-- without barriers an edge is closed by the wall alone
pub west-walled : (s : State) (i j : ℕ) → wall_west (boundary_of s.kind) i ≡ closed_west (unbarred s) i j
unfolding closed_west
west-walled s i j = sym (or-false (wall_west (boundary_of s.kind) i))

pub south-walled : (s : State) (i j : ℕ) → wall_south (boundary_of s.kind) j ≡ closed_south (unbarred s) i j
unfolding closed_south
south-walled s i j = sym (or-false (wall_south (boundary_of s.kind) j))

-- and with them by the wall or by a barrier
masked : (wall bar : Bool) (x : ℤ) → cond (wall || bar) (pos 0) x ≡ cond bar (pos 0) (cond (wall || false) (pos 0) x)
masked true true x = refl
masked true false x = refl
masked false true x = refl
masked false false x = refl

pub u-masked : (s : State) (q : List ℤ) (i j : ℕ) → tendency_u s q i j ≡ cond (bars_west (barrier_at s i j)) (pos 0) (tendency_u (unbarred s) q i j)
unfolding tendency_u closed_west Tu flux_u flux_v B
u-masked s q i j = masked (wall_west (boundary_of s.kind) i) (bars_west (barrier_at s i j)) (Tu s q i j)

pub v-masked : (s : State) (q : List ℤ) (i j : ℕ) → tendency_v s q i j ≡ cond (bars_south (barrier_at s i j)) (pos 0) (tendency_v (unbarred s) q i j)
unfolding tendency_v closed_south Tv flux_u flux_v B
v-masked s q i j = masked (wall_south (boundary_of s.kind) j) (bars_south (barrier_at s i j)) (Tv s q i j)

-- the depth's tendency is the same
pub h-unmasked : (s : State) → h_tendencies (unbarred s) ≡ h_tendencies s
unfolding h_tendencies D flux_u flux_v
h-unmasked s = refl
