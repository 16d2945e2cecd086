-- `scheme_probe::bernoulli_at` meets its contract. Assumes nothing.
use Prim.Native.Nat.{◌^◌, ◌≤◌}
use native.Mathlib.Nat.{le_trans}
use lib.Dec.{lit≤}
use lib.IntN.{ℤ, nat_abs}
use Rattle.model.specs.Numbers.{Within, gravity_limits}
use Rattle.integers.specs.Magnitudes.{gravity-size}
use Rattle.scheme_probe.specs.Held.{kept, converts, four}
use Rattle.scheme_probe.proofs.bernoulli_at.Goals as goal

small : {g : ℤ} → Within gravity_limits g → nat_abs g ≤ 2 ^ 53
small l = le_trans (gravity-size l).abs (lit≤ tt)

pub int_to_float-result : goal.int_to_float-result
int_to_float-result c = converts c.args.s.now.p.g (small c.requires.0)

pub returns : goal.returns
returns c =
    rw (c.double_at-2.ensures, c.double_at.ensures, c.double_at-north.ensures, c.double_at-south.ensures, c.double_at-east.ensures, c.double_at-west.ensures, kept c.args.s.now.p.g (small c.requires.0), four)
