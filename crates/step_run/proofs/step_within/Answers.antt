-- Of a state within the limits, what is left to test decides. Assumes nothing.
use Rattle.std.proofs.Common.{refl, sym, ap, ◌∙◌, length}
use Rattle.std.proofs.lemmas.Result.{err_from_is_err_and}
use Rattle.std.specs.Prelude.{Err}
use Rattle.model.specs.State.{state_at}
use Rattle.model.specs.Promises.{answer_of}
use Rattle.step_run.specs.Beside.{beside-only}
use Rattle.step_run.proofs.CallLaws.{as_one}
use Rattle.step_run.proofs.step_within.Goals as goal

pub run_tested-requires : goal.run_tested-requires
run_tested-requires c =
    c.test_beside-tested.ensures ∙ sym (ap answer_of (beside-only (state_at c.args.s.now) c.args.inflow.now (length c.args.work.now) c.requires))

pub returns-in_err-run_tested-clause-promise : goal.returns-in_err-run_tested-clause-promise
returns-in_err-run_tested-clause-promise c =
    let p = err_from_is_err_and c.from_residual.result c.from_residual.ensures.1 in
    as_one _ c.args.inflow.now c.in_err-run_tested.ensures.promise (p.1 ∙ ap Err p.2)

pub returns-clause-promise : goal.returns-clause-promise
returns-clause-promise c = as_one _ c.args.inflow.now c.in_ok-run_tested.ensures.promise refl
