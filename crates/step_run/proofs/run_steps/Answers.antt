-- `step_run::run_steps` meets its contract: `done` steps have led to the state at hand, which is ready for the next one. Assumes nothing.
use Rattle.std.proofs.Common.{sym, ap, ◌∙◌}
use Rattle.model.specs.State.{state_at, written}
use Rattle.model.specs.Step.{two_pass, Ran}
use Rattle.step_run.specs.Running.{running_more, running-stuck, running-done}
use Rattle.step_run.proofs.RunLaws.{came-moved, came-stuck, ready-next}
use Rattle.step_run.proofs.run_steps.Goals as goal

pub returns-in-Err-clause-ran : goal.returns-in-Err-clause-ran
returns-in-Err-clause-ran c =
    let inv = c.loop-done.invariant in
    let z = came-stuck (two_pass (state_at c.loop-done.s) c.args.inflow.now) c.in-Err.ensures.steps in
    let ran = running-stuck inv.1 c.loop-done-test.true z.0 in
    (sym (ap (λ (r : Ran). r.answer) ran), z.1 ∙ sym (ap (λ (r : Ran). r.state) ran))

pub loop-done-preserved : goal.loop-done-preserved
loop-done-preserved c =
    let inv = c.loop-done.invariant in
    let p = c.two_pass.ensures in
    let t = c.two_pass.new.s in
    let e = came-moved (two_pass (state_at c.loop-done.s) c.args.inflow.now) c.in_default.ensures.steps in (
      ready-next inv.0 e c.two_pass.auto.q p.first p.second,
      running_more inv.1 c.loop-done-test.true e,
      p.slices ∙ ap (λ s. written s t.h.now t.u.now t.v.now) inv.2,
    )

pub returns-clause-ran : goal.returns-clause-ran
returns-clause-ran c =
    let ran = running-done c.loop-done.invariant.1 c.loop-done-test.false in
    (sym (ap (λ (r : Ran). r.answer) ran), sym (ap (λ (r : Ran). r.state) ran))
