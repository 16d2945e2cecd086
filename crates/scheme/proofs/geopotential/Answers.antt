-- `scheme::geopotential` meets its contract. Assumes nothing.
use Rattle.std.proofs.Common.{pos, w64}
use Rattle.integers.specs.Ring.{var, con, ◌⊕◌, ◌⊗◌}
use Rattle.integers.specs.Bounds.{fits, exact}
use Rattle.scheme.specs.SchemeSizes.{geopotential_expr, geopotential-sizes}
use Rattle.scheme.proofs.geopotential.Goals as goal

pub overflow_mul-result : goal.overflow_mul-result
overflow_mul-result c = let p = c.requires in fits (con (pos 4) ⊗ var 0) (geopotential-sizes p.0 p.1 p.2) tt

pub overflow_add-result : goal.overflow_add-result
overflow_add-result c = let p = c.requires in fits (var 1 ⊕ var 2) (geopotential-sizes p.0 p.1 p.2) tt

pub overflow_mul-result-2 : goal.overflow_mul-result-2
overflow_mul-result-2 c = let p = c.requires in fits geopotential_expr (geopotential-sizes p.0 p.1 p.2) tt

pub returns : goal.returns
returns c = let p = c.requires in exact w64 geopotential_expr (geopotential-sizes p.0 p.1 p.2) tt
