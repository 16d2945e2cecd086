use Rattle.std.proofs.Common.{◌≡◌, drop}
use Rattle.text.specs.Sink.{puts}
use Rattle.text.proofs.Sink.put_text.Given as goal

-- the bytes to come go behind those that are put
abbrev pub invariant-loop-byte : goal.invariant-loop-byte
invariant-loop-byte l = puts (drop l.byte-index l.text) l.self ≡ puts l.text l.fn.self
