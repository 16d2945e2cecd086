-- There are three ways, and a law for each: an input that is too long, a record that is read and stepped, a record that is refused. What
-- the reader promises is what the step asks for.
use Rattle.std.proofs.Common.{rules, ap, ◌∙◌}
use Rattle.model.specs.State.{Fields}
use Rattle.model.specs.Program.{refused_line}
use Rattle.text.specs.Sink.{puts, printed}
use Rattle.program.specs.ReadLaws.{read-ready, program-long, program-refused, program-stepped}
use Rattle.program.proofs.print_step.Goals as goal
use Rattle.program.proofs.print_step.Goals.{in-Ok, in-Err}

pub returns-then-input-ge65536 : goal.returns-then-input-ge65536
returns-then-input-ge65536 c =
    let a = c.args in
    let d : Fields = record { h = a.h.now; b = a.b.now; u = a.u.now; v = a.v.now; barriers = a.barriers.now } in
    let seven = c.put_refused.ensures ∙ ap (λ k. puts (refused_line k) c.new-sink.result) c.number_of.ensures in
    program-long a.input.now d c.if-input-ge65536.true (printed _ c.new-sink.ensures seven c.count.ensures (search rules))

pub step_parts-requires : goal.step_parts-requires
step_parts-requires c = read-ready c.read.ensures c.in-Ok.is

pub returns : goal.returns
returns c =
    elim c.match-read.branch [
      | in-Ok w ↦ rw (w.h-is, w.u-is, w.v-is, w.work-is) (program-stepped c.read.ensures (λ l e. printed l c.new-sink.ensures (w.sink-is ∙ e) c.count-2.ensures (search rules))
          c.if-input-ge65536.false w.in-Ok.is w.step_parts.ensures)
      | in-Err w ↦ rw (w.h-is, w.u-is, w.v-is, w.work-is) (program-refused c.read.ensures c.if-input-ge65536.false w.in-Err.is w.number_of-in-Err.ensures
          (printed _ c.new-sink.ensures (w.sink-is ∙ w.put_refused-in-Err.ensures) c.count-2.ensures (search rules)))
    ]
