-- `scheme::Factors::north_share` meets its contract. Assumes nothing.
use Rattle.std.proofs.Common.{pos, w64}
use Rattle.integers.specs.Ring.{var, con, ◌⊕◌, ◌⊖◌, ◌⊗◌}
use Rattle.integers.specs.Bounds.{fits, exact}
use Rattle.scheme.specs.SchemeSizes.{fit-sizes, north_expr}
use Rattle.scheme.proofs.Factors.north_share.Goals as goal

pub overflow_sub-result-2 : goal.overflow_sub-result-2
overflow_sub-result-2 c = fits (con (pos 0) ⊖ var 0 ⊗ var 4 ⊖ var 1 ⊗ var 5) (fit-sizes c.args.self.fit) tt

pub overflow_mul-result-3 : goal.overflow_mul-result-3
overflow_mul-result-3 c = fits (var 3 ⊗ var 6) (fit-sizes c.args.self.fit) tt

pub overflow_add-result : goal.overflow_add-result
overflow_add-result c = fits (con (pos 0) ⊖ var 0 ⊗ var 4 ⊖ var 1 ⊗ var 5 ⊕ var 3 ⊗ var 6) (fit-sizes c.args.self.fit) tt

pub overflow_add-result-2 : goal.overflow_add-result-2
overflow_add-result-2 c = fits north_expr (fit-sizes c.args.self.fit) tt

pub returns : goal.returns
returns c = exact w64 north_expr (fit-sizes c.args.self.fit) tt
