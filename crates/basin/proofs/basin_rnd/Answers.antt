-- What passes the test of the range is what `integers::rnd` asks for.
use Rattle.std.specs.Prelude.{◌≡◌, true, ℤ, pos, neg_ℤ}
use Rattle.std.proofs.Common.{sym, ◌∙◌}
use Rattle.model.specs.Numbers.{◌to◌, within}
use Rattle.integers.specs.Bounds.{abs-within}
use Rattle.integers.specs.Rounding.{Roundable, most_dividend, most_divisor}
use Rattle.theorems.specs.Truth.{true-T, and-iff}
use Rattle.theorems.specs.Limits.{within-iff}
use Rattle.basin.specs.FromC.{roundable}
use Rattle.basin.proofs.basin_rnd.Goals as goal

taken : (a b : ℤ) → roundable a b ≡ true → Roundable a b
taken a b t =
    let d = neg_ℤ (pos most_dividend) to pos most_dividend in
    let e = pos 1 to pos most_divisor in
    let p = (and-iff (within d a) (within e b)).0 (true-T t) in
    let w = (within-iff e b).0 p.1 in
    record { small = (abs-within ((within-iff d a).0 p.0) tt).abs; some = w.low; most = (abs-within w tt).abs }

pub rnd-requires : goal.rnd-requires
rnd-requires c = taken _ _ (sym c.is_roundable.ensures ∙ c.if-not-is_roundable.false)
