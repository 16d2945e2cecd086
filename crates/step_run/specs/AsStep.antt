-- A step is a run of one: what it answers, by what that run answers. Assumes nothing.
use Rattle.std.specs.Prelude.{Ok, Err}
use Rattle.model.specs.Answers.{RunAnswer, StepAnswer, step_error}

abbrev pub as_step : RunAnswer → StepAnswer
as_step (Ok m) = Ok tt
as_step (Err e) = Err (step_error e)
