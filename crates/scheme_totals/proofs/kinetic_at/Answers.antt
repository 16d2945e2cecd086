-- `scheme_totals::kinetic_at` meets its contract. Assumes nothing.
use Rattle.std.proofs.Common.{w64}
use Rattle.integers.specs.Ring.{var, ◌⊕◌, ◌⊗◌}
use Rattle.integers.specs.Bounds.{fits, exact}
use Rattle.scheme_totals.specs.Energy.{kinetic_expr, kinetic-sizes}
use Rattle.scheme_totals.proofs.kinetic_at.Goals as goal

pub overflow_add-result : goal.overflow_add-result
overflow_add-result c = let p = c.requires in fits (var 1 ⊕ var 2) (kinetic-sizes p.0 p.1 p.2) tt

pub overflow_mul-result : goal.overflow_mul-result
overflow_mul-result c = let p = c.requires in fits (var 0 ⊗ var 0) (kinetic-sizes p.0 p.1 p.2) tt

pub overflow_mul-result-2 : goal.overflow_mul-result-2
overflow_mul-result-2 c = let p = c.requires in fits kinetic_expr (kinetic-sizes p.0 p.1 p.2) tt

pub returns : goal.returns
returns c = let p = c.requires in exact w64 kinetic_expr (kinetic-sizes p.0 p.1 p.2) tt
