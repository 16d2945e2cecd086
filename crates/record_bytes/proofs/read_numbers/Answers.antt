-- The loop has filled the first places. Assumes nothing.
use Rattle.std.proofs.Common.{◌≡◌, ◌*◌, ◌≤◌, ◌<◌, pos, length, take, drop, w64, ap, sym, ◌∙◌, arith}
use Rattle.std.proofs.lemmas.Grind.{common_steps}
use Rattle.integers.specs.Bounds.{held-is}
use Rattle.grid.specs.WritingLoops.{filling-more, filling-done}
use Rattle.record_bytes.specs.NumberSizes.{size_of, signed_by, numbers_by}
use Rattle.record_bytes.specs.ByteLoops.{number_is, numbers-long}
use Rattle.record_bytes.proofs.read_numbers.Goals as goal

pub loop-i-preserved : goal.loop-i-preserved
loop-i-preserved c =
    let a = c.args in
    let i = c.loop-i.i in
    let long : length (numbers_by a.size a.m a.value.now) ≡ a.m = numbers-long a.size a.m a.value.now in
    let h : i < a.m = grind (arith, common_steps) in
    filling-more (pos 0) c.loop-i.invariant (grind (arith, common_steps)) (grind (arith, common_steps))
    (held-is w64 c.number_at.type_inv
    (c.number_at.ensures ∙ ap (λ n. signed_by a.size (take (size_of a.size) (drop (i * n) a.value.now))) c.bytes-each.ensures ∙ sym (number_is a.size a.m a.value.now i h)))

pub returns : goal.returns
returns c =
    let a = c.args in
    let long : length (numbers_by a.size a.m a.value.now) ≡ a.m = numbers-long a.size a.m a.value.now in
    let h : a.m ≤ c.loop-i.i = grind (arith, common_steps) in
    rw (filling-done c.loop-i.invariant long h) (grind (arith, common_steps))
