-- Five words, one after the other, are the line; the library's numerals are the model's.
use Rattle.std.proofs.Common.{rules, refl, to_z-of_z}
use Rattle.text.specs.Sink.{puts-append}
use Rattle.text.specs.Numerals.{unsigned-is, signed-is}
use Rattle.text.proofs.Sink.put_cell.Goals as goal

pub returns : goal.returns
returns c =
    let a = c.args in
    let i = unsigned-is a.i (search rules) in
    let j = unsigned-is a.j (search rules) in
    let h = signed-is a.h (search rules) in
    let u = signed-is a.u (search rules) in
    let v = signed-is a.v (search rules) in
    let fh = c.ranges.h in
    let fu = c.ranges.u in
    let fv = c.ranges.v in
    rw (← i, ← j, ← h, ← u, ← v) (simp (c.put_word-5.ensures, c.put_word-4.ensures, c.put_word-3.ensures, c.put_word-2.ensures, c.put_word.ensures, puts-append, to_z-of_z) refl)
