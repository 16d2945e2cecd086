-- Every byte is 3 at most. Assumes nothing.
use Rattle.std.proofs.Common.{length, sym, le_trans}
use Rattle.tests.specs.Links.{small-inside}
use Rattle.tests.proofs.test_barriers.Goals as goal

pub returns-then-highest-le3 : goal.returns-then-highest-le3
returns-then-highest-le3 c =
    let o = c.args.barriers.now in
    sym (small-inside o (length o) (λ k. le_trans (c.highest.ensures.0 k) c.if-highest-le3.true))
