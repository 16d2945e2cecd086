-- What does not enter: potential vorticity and the flows are those of the depths and velocities alone, whatever bottom and barriers are.
-- Assumes nothing.
use Rattle.std.specs.Prelude.{◌≡◌, refl, List, [], ℕ, ℤ}
use Rattle.model.specs.State.{state_of}
use Rattle.model.specs.Scheme.{Z, H, vorticity_at, vorticity, flux_u, flux_v}
use Rattle.model.specs.Step.{X, Y}
use Rattle.model.specs.declared.Parameters.{Parameters}

module _ (p : Parameters) (h b u v : List ℤ) (barriers : List ℕ) where
  pub vorticity-alone : vorticity (state_of p h b u v barriers) ≡ vorticity (state_of p h [] u v [])
  unfolding Z H vorticity_at vorticity
  vorticity-alone = refl

  pub x-alone : (i j : ℕ) → X (state_of p h b u v barriers) i j ≡ X (state_of p h [] u v []) i j
  unfolding flux_u X
  x-alone i j = refl

  pub y-alone : (i j : ℕ) → Y (state_of p h b u v barriers) i j ≡ Y (state_of p h [] u v []) i j
  unfolding flux_v Y
  y-alone i j = refl
