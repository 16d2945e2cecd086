-- `scheme::Factors::south_share` meets its contract. Assumes nothing.
use Rattle.std.proofs.Common.{pos, w64}
use Rattle.integers.specs.Ring.{var, con, ◌⊖◌, ◌⊗◌}
use Rattle.integers.specs.Bounds.{fits, exact}
use Rattle.scheme.specs.SchemeSizes.{fit-sizes, south_expr}
use Rattle.scheme.proofs.Factors.south_share.Goals as goal

pub overflow_sub-result-2 : goal.overflow_sub-result-2
overflow_sub-result-2 c = fits (con (pos 0) ⊖ var 0 ⊗ var 5 ⊖ var 1 ⊗ var 4) (fit-sizes c.args.self.fit) tt

pub overflow_mul-result-3 : goal.overflow_mul-result-3
overflow_mul-result-3 c = fits (var 3 ⊗ var 7) (fit-sizes c.args.self.fit) tt

pub overflow_sub-result-3 : goal.overflow_sub-result-3
overflow_sub-result-3 c = fits (con (pos 0) ⊖ var 0 ⊗ var 5 ⊖ var 1 ⊗ var 4 ⊖ var 3 ⊗ var 7) (fit-sizes c.args.self.fit) tt

pub overflow_sub-result-4 : goal.overflow_sub-result-4
overflow_sub-result-4 c = fits south_expr (fit-sizes c.args.self.fit) tt

pub returns : goal.returns
returns c = exact w64 south_expr (fit-sizes c.args.self.fit) tt
