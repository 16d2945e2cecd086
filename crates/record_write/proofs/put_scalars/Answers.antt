-- `record_write::put_scalars` meets its contract: one field after the other is all three. Assumes nothing.
use Rattle.std.proofs.Common.{◌∙◌}
use Rattle.record_bytes.specs.BigEndian.{eight_bytes}
use Rattle.record_bytes.specs.Puts.{puts_then, room-first, room-then}
use Rattle.record_write.specs.WriteLaws.{constants-room, constants-put}
use Rattle.record_write.proofs.put_scalars.Goals as goal

pub put_numbers-requires : goal.put_numbers-requires
put_numbers-requires c = constants-room c.requires.0.constants (room-first _ (room-then c.put_field.ensures c.requires.1))

pub put_field-requires-2 : goal.put_field-requires-2
put_field-requires-2 c =
    rw (c.to_be_bytes.ensures ∙ eight_bytes c.args.seconds)
    (room-then (constants-put c.requires.0.constants c.put_numbers.ensures) (room-then c.put_field.ensures c.requires.1))

pub returns : goal.returns
returns c =
    puts_then c.put_field.ensures
    (puts_then (constants-put c.requires.0.constants c.put_numbers.ensures) (rw (c.to_be_bytes.ensures ∙ eight_bytes c.args.seconds) at c.put_field-2.ensures))
