-- `scheme::Factors::east_share` meets its contract. Assumes nothing.
use Rattle.std.proofs.Common.{w64}
use Rattle.integers.specs.Ring.{var, ◌⊕◌, ◌⊗◌}
use Rattle.integers.specs.Bounds.{fits, exact}
use Rattle.scheme.specs.SchemeSizes.{fit-sizes, east_expr}
use Rattle.scheme.proofs.Factors.east_share.Goals as goal

pub overflow_add-result : goal.overflow_add-result
overflow_add-result c = fits (var 1 ⊗ var 7 ⊕ var 0 ⊗ var 6) (fit-sizes c.args.self.fit) tt

pub overflow_mul-result-3 : goal.overflow_mul-result-3
overflow_mul-result-3 c = fits (var 2 ⊗ var 4) (fit-sizes c.args.self.fit) tt

pub overflow_add-result-2 : goal.overflow_add-result-2
overflow_add-result-2 c = fits (var 1 ⊗ var 7 ⊕ var 0 ⊗ var 6 ⊕ var 2 ⊗ var 4) (fit-sizes c.args.self.fit) tt

pub overflow_add-result-3 : goal.overflow_add-result-3
overflow_add-result-3 c = fits east_expr (fit-sizes c.args.self.fit) tt

pub returns : goal.returns
returns c = exact w64 east_expr (fit-sizes c.args.self.fit) tt
