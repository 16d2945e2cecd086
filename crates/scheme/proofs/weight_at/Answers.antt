-- `scheme::weight_at` meets its contract. Assumes nothing.
use Rattle.std.proofs.Common.{w64}
use Rattle.model.specs.Weights.{weights, weight_at}
use Rattle.integers.specs.Ring.{var}
use Rattle.integers.specs.Bounds.{∎, ◌◂◌, exact}
use Rattle.scheme.specs.SchemeSizes.{table-size}
use Rattle.scheme.proofs.weight_at.Goals as goal

pub returns : goal.returns
unfolding weights weight_at
returns c = exact w64 (var 0) (table-size c.args.row c.args.corner ◂ ∎) tt
