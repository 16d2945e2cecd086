-- `scheme::flux_at` meets its contract. Assumes nothing.
use Rattle.std.proofs.Common.{w64}
use Rattle.integers.specs.Ring.{var, ◌⊕◌}
use Rattle.integers.specs.Bounds.{fits, exact}
use Rattle.scheme.specs.SchemeSizes.{flux_expr, flux-sizes}
use Rattle.scheme.proofs.flux_at.Goals as goal

pub overflow_add-result : goal.overflow_add-result
overflow_add-result c = let p = c.requires in fits (var 1 ⊕ var 2) (flux-sizes p.0 p.1 p.2) tt

pub overflow_mul-result : goal.overflow_mul-result
overflow_mul-result c = let p = c.requires in fits flux_expr (flux-sizes p.0 p.1 p.2) tt

pub returns : goal.returns
returns c = let p = c.requires in exact w64 flux_expr (flux-sizes p.0 p.1 p.2) tt
