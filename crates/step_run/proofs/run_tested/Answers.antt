-- `step_run::run_tested` meets its contract. Assumes nothing.
use Rattle.std.proofs.Common.{◌≡◌, ◌*◌, ◌≤◌, sym, ◌∙◌, length, take, drop, length-append, length-take-le, arith}
use Rattle.std.specs.Prelude.{Ok, Err}
use Rattle.model.specs.State.{state_at, cells}
use Rattle.model.specs.Step.{run_test}
use Rattle.model.specs.Promises.{answer_of}
use Rattle.model.specs.Claims.{StepTaken}
use Rattle.grid.specs.Cells.{cells-most}
use Rattle.step_run.proofs.CallLaws.{run-passed, run-done, run-refused, run_room}
use Rattle.step_run.proofs.run_tested.Goals as goal
use Rattle.step_run.proofs.run_tested.Goals.{In-Ok, In-Err}

-- ---- the tests have passed

passed : (c : In-Ok) → Ok tt ≡ answer_of (run_test (state_at c.args.s.now) c.args.inflow.now c.args.steps (length c.args.work.now))
passed c = sym c.in-Ok.is ∙ c.requires

ready : (c : In-Ok) → StepTaken (state_at c.args.s.now) c.args.inflow.now (length c.args.work.now)
ready c = run-passed (state_at c.args.s.now) c.args.inflow.now c.args.steps c.args.work.now (passed c)

few : (c : In-Ok) → cells (state_at c.args.s.now) ≤ 4096
few c = let r = ready c in cells-most r.0.columns r.0.rows

-- the part that is lent on
used : (c : In-Ok) → let k = 8 * cells (state_at c.args.s.now) in length (take k c.args.work.now) ≡ k
used c = length-take-le _ c.args.work.now (ready c).2

pub overflow_mul-m : goal.overflow_mul-m
overflow_mul-m c = omega (arith, few (goal.at.overflow_mul-m c).In-Ok)

pub overflow_mul-m-in-Ok : goal.overflow_mul-m-in-Ok
overflow_mul-m-in-Ok c = omega (arith, few (goal.at.overflow_mul-m-in-Ok c).In-Ok)

pub slice_bounds-run_in_room-end : goal.slice_bounds-run_in_room-end
slice_bounds-run_in_room-end c = (ready (goal.at.slice_bounds-run_in_room-end c).In-Ok).2

pub slice_bounds-run_in_room-end-in-Ok : goal.slice_bounds-run_in_room-end-in-Ok
slice_bounds-run_in_room-end-in-Ok c = sym (used (goal.at.slice_bounds-run_in_room-end-in-Ok c).In-Ok)

pub run_in_room-answer-requires : goal.run_in_room-answer-requires
run_in_room-answer-requires c =
    let t = (goal.at.run_in_room-answer-requires c).In-Ok in
    let r = ready t in
    (r.0, r.1, omega (arith, used t))

pub clear_used-requires : goal.clear_used-requires
clear_used-requires c =
    let k = 8 * cells (state_at c.args.s.now) in
    let e = length-append c.run_in_room-answer.new.work (drop k c.args.work.now) in
    omega (arith, e, c.run_in_room-answer.auto.work, used (goal.at.clear_used-requires c).In-Ok)

pub returns-in-Ok-clause-promise : goal.returns-in-Ok-clause-promise
returns-in-Ok-clause-promise c =
    let t = (goal.at.returns-in-Ok-clause-promise c).In-Ok in
    let r = c.run_in_room-answer.ensures.ran in
    run-done _ c.args.inflow.now c.args.steps c.args.work.now c.run_in_room-answer.new.work (passed t) r.0 r.1 (c.run_in_room-answer.auto.work ∙ used t) c.clear_used.ensures

-- ---- a test refuses

refused : (c : In-Err) → Err c.in-Err.refusal ≡ answer_of (run_test (state_at c.args.s.now) c.args.inflow.now c.args.steps (length c.args.work.now))
refused c = sym c.in-Err.is ∙ c.requires

pub clear_after-requires : goal.clear_after-requires
clear_after-requires c = run_room _ c.args.inflow.now c.args.steps c.args.work.now (refused (goal.at.clear_after-requires c).In-Err)

pub returns-in-Err-clause-promise : goal.returns-in-Err-clause-promise
returns-in-Err-clause-promise c =
    let s = c.args.s.now in
    run-refused (state_at s) c.args.inflow.now c.args.steps c.args.work.now (refused (goal.at.returns-in-Err-clause-promise c).In-Err)
    (c.clear_after.ensures s.h.now s.b.now s.u.now s.v.now s.barriers.now)
