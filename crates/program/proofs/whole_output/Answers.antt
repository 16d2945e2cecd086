use Rattle.std.proofs.Common.{rules}
use Rattle.program.specs.ReadLaws.{whole-text}
use Rattle.program.proofs.whole_output.Goals as goal

pub returns : goal.returns
returns c = whole-text c.args.input.now (search rules) c.output.ensures
