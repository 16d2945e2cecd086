-- Each read puts its bytes behind those that were read before.
use Rattle.std.proofs.Common.{rules, refl}
use Rattle.program.proofs.Reading.{read_more}
use Rattle.program.proofs.read_full.Goals as goal

pub loop-count-preserved : goal.loop-count-preserved
loop-count-preserved g c =
    let r = c.in_ok-n in
    let l = c.loop-count in
    (search rules, read_more _ _ _ l.count r.n _ l.buf c.read.new.buf refl l.invariant.0 r.ensures.bound.0 l.invariant.1 r.ensures.bytes.0)
