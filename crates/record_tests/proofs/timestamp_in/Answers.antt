-- `record_tests::timestamp_in` meets its contract. Assumes nothing.
use Rattle.std.proofs.Common.{◌∙◌, arith}
use Rattle.model.specs.Record.{timestamp_in}
use Rattle.record_tests.proofs.ValueLaws.{seconds-read, milliseconds-read, no-milliseconds}
use Rattle.record_tests.proofs.timestamp_in.Goals as goal

pub returns-in-len2 : goal.returns-in-len2
unfolding timestamp_in
returns-in-len2 c =
    let s = seconds-read c.value_of-seconds.ensures (rw c.unwrap.ensures at c.first_chunk.ensures.cases) c.from_be_bytes.ensures in
    let ms = milliseconds-read c.value_of-milliseconds.ensures c.in-len2.len_at_least (c.from.ensures ∙ c.from_be_bytes-in-len2.ensures) in
    λ i. record { seconds = s i; milliseconds = ms i }

pub returns-in_default : goal.returns-in_default
unfolding timestamp_in
returns-in_default c =
    let s = seconds-read c.value_of-seconds.ensures (rw c.unwrap.ensures at c.first_chunk.ensures.cases) c.from_be_bytes.ensures in
    let ms = no-milliseconds c.value_of-milliseconds.ensures (omega arith) in
    λ i. record { seconds = s i; milliseconds = ms i }
