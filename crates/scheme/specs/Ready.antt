-- What a function that reads fields asks of them. Assumes nothing.
use Rattle.std.proofs.Common.{sym, subst}
use Rattle.std.specs.Prelude.{List, [], ℕ, ◌<◌, ℤ, pos, length, get_or}
use Rattle.model.specs.Numbers.{Limits, Within, gravity_limits, coriolis_limits, ratio_limits, depth_limits, bottom_limits, velocity_limits, vorticity_limits}
use Rattle.model.specs.State.{State, state_of, Side, cells, corners, FieldWithin, WithinLimits}
use Rattle.model.specs.declared.Lent.{Lent}
use Rattle.grid.specs.Stencils.{Below}
use Rattle.grid.specs.declared.Stencil.{Stencil}

-- the lent state without its barriers, its edges closed by walls alone
abbrev pub walled : Lent → State
walled s = state_of s.p s.h.now s.b.now s.u.now s.v.now []

-- a field has a number at index k, and it is within the limits
pub record ReadsAt (l : Limits) (f : List ℤ) (k : ℕ) : Type 0 where
  pub inside : k < length f
  pub value : Within l (get_or f k (pos 0))

pub reads : {l : Limits} {m k : ℕ} {f : List ℤ} → FieldWithin l m f → k < m → ReadsAt l f k
reads {k = k} p q = record { inside = subst (λ (m : ℕ). k < m) (sym p.long) q; value = p.each k q }

-- depths and velocities of m cells, and a cell among them with those around it
pub record Flow (m : ℕ) (s : State) (a : Stencil) : Type 0 where
  pub depths : FieldWithin depth_limits m s.h
  pub us : FieldWithin velocity_limits m s.u
  pub vs : FieldWithin velocity_limits m s.v
  pub around : Below m a

-- what potential vorticity is made of, of a state, is within the limits
pub record VorticityReady (s : State) : Type 0 where
  pub columns : Side s.w
  pub rows : Side s.n
  pub coriolis : Within coriolis_limits s.c
  pub depths : FieldWithin depth_limits (cells s) s.h
  pub us : FieldWithin velocity_limits (cells s) s.u
  pub vs : FieldWithin velocity_limits (cells s) s.v

-- what the flows through a cell's edges are made of is within the limits
pub record FlowReady (s : State) : Type 0 where
  pub columns : Side s.w
  pub rows : Side s.n
  pub ratio : Within ratio_limits s.R
  pub depths : FieldWithin depth_limits (cells s) s.h
  pub us : FieldWithin velocity_limits (cells s) s.u
  pub vs : FieldWithin velocity_limits (cells s) s.v

-- what tendencies and energies are made of, of a state, is within the limits. The barriers do not enter.
pub record StateReady (s : State) : Type 0 where
  pub columns : Side s.w
  pub rows : Side s.n
  pub gravity : Within gravity_limits s.G
  pub depths : FieldWithin depth_limits (cells s) s.h
  pub bottoms : FieldWithin bottom_limits (cells s) s.b
  pub us : FieldWithin velocity_limits (cells s) s.u
  pub vs : FieldWithin velocity_limits (cells s) s.v

pub record TendenciesReady (s : State) (q : List ℤ) : Type 0 where
  pub state : StateReady s
  pub vorticity : FieldWithin vorticity_limits (corners s) q

pub ready : {s : State} {q : List ℤ} → WithinLimits s → FieldWithin vorticity_limits (corners s) q → TendenciesReady s q
ready l v = record { state = search l; vorticity = v }
