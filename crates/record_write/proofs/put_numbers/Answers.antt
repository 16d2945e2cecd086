-- `record_write::put_numbers` meets its contract. Assumes nothing.
use Rattle.std.proofs.Common.{◌*◌, length, ap, sym, ◌∙◌}
use Rattle.record_bytes.specs.ByteLoops.{length-value}
use Rattle.record_write.specs.WriteLaws.{field_put}
use Rattle.record_write.proofs.put_numbers.Goals as goal

pub returns : goal.returns
returns c =
    let a = c.args in
    field_put (length-value a.size a.f.now ∙ ap (λ z. length a.f.now * z) (sym c.bytes.ensures)) c.put_head.ensures c.put_numbers.ensures
