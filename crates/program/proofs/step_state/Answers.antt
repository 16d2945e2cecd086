-- There is one return for each answer of the step, and a law of StepLaws for each: done, refused, out of bounds. After a step the state is
-- within the limits again, so it can be printed.
use Rattle.std.proofs.Common.{sym, subst}
use Rattle.program.specs.Stepped.{Printable}
use Rattle.program.specs.StepLaws.{printable, after-within}
use Rattle.program.proofs.step_state.Goals as goal

pub print_state-requires : goal.print_state-requires
print_state-requires c = subst Printable (sym c.lent.ensures) (printable _ (after-within c.step_within.ensures.promise c.requires))
