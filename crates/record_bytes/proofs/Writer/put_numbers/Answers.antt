-- The loop has put the first numbers, and there is room for the next. Assumes nothing.
use Rattle.std.proofs.Common.{subst}
use Rattle.record_bytes.specs.ByteLoops.{value_more, value-parts, number-held}
use Rattle.record_bytes.specs.Puts.{HasRoom, puts_then, room-first, room-then}
use Rattle.record_bytes.proofs.Writer.put_numbers.Goals as goal

pub put_number-requires : goal.put_number-requires
put_number-requires c =
    let a = c.args in
    let i = c.loop-x.x-index in
    let fits = c.requires.1.each i c.loop-x-test.true in
    (rw (number-held a.size fits) (room-first _ (room-then c.loop-x.invariant (subst (HasRoom a.self.now) (value-parts a.size a.f.now i c.loop-x-test.true) c.requires.0))), rw (number-held a.size fits) fits)

pub loop-x-preserved : goal.loop-x-preserved
loop-x-preserved c =
    let a = c.args in
    let i = c.loop-x.x-index in
    rw (value_more a.size a.f.now i c.loop-x-test.true)
    (puts_then c.loop-x.invariant (rw (number-held a.size (c.requires.1.each i c.loop-x-test.true)) at c.put_number.ensures))
