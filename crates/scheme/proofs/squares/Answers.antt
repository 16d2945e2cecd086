-- `scheme::squares` meets its contract. Assumes nothing.
use Rattle.std.proofs.Common.{w64}
use Rattle.integers.specs.Ring.{var, ◌⊗◌}
use Rattle.integers.specs.Bounds.{fits, exact}
use Rattle.scheme.specs.SchemeSizes.{squares_expr, squares-sizes}
use Rattle.scheme.proofs.squares.Goals as goal

pub overflow_mul-result : goal.overflow_mul-result
overflow_mul-result c = let p = c.requires in fits (var 0 ⊗ var 0) (squares-sizes p.0 p.1) tt

pub overflow_mul-result-2 : goal.overflow_mul-result-2
overflow_mul-result-2 c = let p = c.requires in fits (var 1 ⊗ var 1) (squares-sizes p.0 p.1) tt

pub overflow_add-result : goal.overflow_add-result
overflow_add-result c = let p = c.requires in fits squares_expr (squares-sizes p.0 p.1) tt

pub returns : goal.returns
returns c = let p = c.requires in exact w64 squares_expr (squares-sizes p.0 p.1) tt
