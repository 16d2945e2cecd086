-- There are as many as it was made for. Assumes nothing.
use Rattle.std.proofs.Common.{sym}
use Rattle.record_bytes.specs.ByteLoops.{numbers-long}
use Rattle.record_tests.proofs.EncodedNumbers.count.Goals as goal

pub returns : goal.returns
returns c = let e = c.args.self.now in sym (numbers-long e.size e.count e.value.now)
