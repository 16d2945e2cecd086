-- `scheme::convergence` meets its contract. Assumes nothing.
use Rattle.std.proofs.Common.{◌∙◌, [], ◌∷◌, pos, w64}
use Rattle.std.proofs.Math.IntN.{+ℤ_idl}
use Rattle.integers.specs.Ring.{Expr, var, con, ◌⊕◌, ◌⊖◌}
use Rattle.integers.specs.Bounds.{Abs, Sizes, ∎, ◌◂◌, fits, exact}
use Rattle.scheme.specs.Shares.{most_flux}
use Rattle.scheme.specs.declared.Fluxes.{Fluxes}
use Rattle.scheme.proofs.convergence.Goals as goal

abbrev out : Expr
out = var 0 ⊖ var 1 ⊕ var 2 ⊖ var 3

sizes : {f : Fluxes} → Abs f.west most_flux × Abs f.east most_flux × Abs f.south most_flux × Abs f.north most_flux
    → Sizes (f.east ∷ f.west ∷ f.north ∷ f.south ∷ []) (most_flux ∷ most_flux ∷ most_flux ∷ most_flux ∷ [])
sizes p = p.1 ◂ p.0 ◂ p.3 ◂ p.2 ◂ ∎

pub overflow_sub-result-2 : goal.overflow_sub-result-2
overflow_sub-result-2 c = fits out (sizes c.requires) tt

pub overflow_sub-result-3 : goal.overflow_sub-result-3
overflow_sub-result-3 c = fits (con (pos 0) ⊖ out) (sizes c.requires) tt

pub returns : goal.returns
returns c = exact w64 (con (pos 0) ⊖ out) (sizes c.requires) tt ∙ +ℤ_idl _
