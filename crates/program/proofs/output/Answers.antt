use Rattle.program.specs.ReadLaws.{own-arrays}
use Rattle.program.proofs.output.Goals as goal

pub returns : goal.returns
returns c = own-arrays c.args.input.now c.print_step.ensures
