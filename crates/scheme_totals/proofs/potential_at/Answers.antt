-- `scheme_totals::potential_at` meets its contract. Assumes nothing.
use Rattle.std.proofs.Common.{pos, w64}
use Rattle.integers.specs.Ring.{var, con, ◌⊕◌, ◌⊗◌}
use Rattle.integers.specs.Bounds.{fits, exact}
use Rattle.scheme_totals.specs.Energy.{potential_expr, potential-sizes}
use Rattle.scheme_totals.proofs.potential_at.Goals as goal

pub overflow_mul-result : goal.overflow_mul-result
overflow_mul-result c = let p = c.requires in fits (con (pos 2) ⊗ var 0) (potential-sizes p.0 p.1 p.2) tt

pub overflow_mul-result-2 : goal.overflow_mul-result-2
overflow_mul-result-2 c = let p = c.requires in fits (con (pos 2) ⊗ var 0 ⊗ var 1) (potential-sizes p.0 p.1 p.2) tt

pub overflow_mul-result-3 : goal.overflow_mul-result-3
overflow_mul-result-3 c = let p = c.requires in fits (con (pos 2) ⊗ var 2) (potential-sizes p.0 p.1 p.2) tt

pub overflow_add-result : goal.overflow_add-result
overflow_add-result c = let p = c.requires in fits (var 1 ⊕ con (pos 2) ⊗ var 2) (potential-sizes p.0 p.1 p.2) tt

pub overflow_mul-result-4 : goal.overflow_mul-result-4
overflow_mul-result-4 c = let p = c.requires in fits potential_expr (potential-sizes p.0 p.1 p.2) tt

pub returns : goal.returns
returns c = let p = c.requires in exact w64 potential_expr (potential-sizes p.0 p.1 p.2) tt
