-- It is a run of one. Assumes nothing.
use Rattle.std.proofs.Common.{refl, ap, ◌∙◌}
use Rattle.std.proofs.lemmas.Result.{err_from_is_err_and}
use Rattle.std.specs.Prelude.{Err}
use Rattle.step_run.proofs.CallLaws.{as_one}
use Rattle.step_run.proofs.step.Goals as goal

pub returns-in_err-run-clause-promise : goal.returns-in_err-run-clause-promise
returns-in_err-run-clause-promise c =
    let p = err_from_is_err_and c.from_residual.result c.from_residual.ensures.1 in
    as_one _ c.args.inflow.now c.in_err-run.ensures.promise (p.1 ∙ ap Err p.2)

pub returns-clause-promise : goal.returns-clause-promise
returns-clause-promise c = as_one _ c.args.inflow.now c.in_ok-run.ensures.promise refl
