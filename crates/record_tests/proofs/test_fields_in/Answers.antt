-- Each value's numbers are the state's own field. Assumes nothing.
use Rattle.std.proofs.Common.{List, [], ◌∷◌, ℤ, ◌∙◌}
use Rattle.std.proofs.lemmas.Result.{err_from_is_err_and}
use Rattle.model.specs.State.{State, cells, barrier_numbers}
use Rattle.model.specs.Tests.{Test}
use Rattle.model.specs.Refusals.{taken, value_test}
use Rattle.model.specs.declared.Field.{Field}
use Rattle.model.specs.declared.Field.TheVariants.{Depth, Bottom, VelocityU, VelocityV, Barriers}
use Rattle.model.specs.declared.Refusal.{Refusal}
use Rattle.model.specs.declared.Refusal.TheVariants.{Value}
use Rattle.record_bytes.specs.declared.Size.TheVariants.{Two, Four}
use Rattle.record_bytes.specs.ByteLoops.{numbers-long}
use Rattle.record_tests.specs.RecordTested.{state_read}
use Rattle.record_tests.proofs.ValueLaws.{h-is, b-is, u-is, v-is, value-bytes}
use Rattle.record_tests.proofs.OrderLaws.{cells_are, own-test, first-refuses, first-passes, bytes-tested}
use Rattle.record_tests.proofs.test_fields_in.Goals as goal

abbrev test : State → Field → List ℤ → Test Refusal
test s field f = value_test Value (taken s field f)

abbrev last : State → Test Refusal
last s = test s Barriers (barrier_numbers s)

pub test_field-requires : goal.test_field-requires
test_field-requires c = let e = c.numbers_of.result in numbers-long e.size e.count e.value.now ∙ c.numbers_of.ensures.2

pub test_field-requires-2 : goal.test_field-requires-2
test_field-requires-2 c = let e = c.numbers_of-2.result in numbers-long e.size e.count e.value.now ∙ c.numbers_of-2.ensures.2

pub test_field-requires-3 : goal.test_field-requires-3
test_field-requires-3 c = let e = c.numbers_of-3.result in numbers-long e.size e.count e.value.now ∙ c.numbers_of-3.ensures.2

pub test_field-requires-4 : goal.test_field-requires-4
test_field-requires-4 c = let e = c.numbers_of-4.result in numbers-long e.size e.count e.value.now ∙ c.numbers_of-4.ensures.2

pub returns-in_err-test_field : goal.returns-in_err-test_field
returns-in_err-test_field c =
    let a = c.args in
    let s = state_read a.rec.now.bytes.now in
    let y = c.requires.0 in
    let p = err_from_is_err_and c.from_residual.result c.from_residual.ensures.1 in
    rw (p.1, p.2)
    (first-refuses (test s Bottom s.b ∷ test s VelocityU s.u ∷ test s VelocityV s.v ∷ last s ∷ []) (own-test y Four 4 c.numbers_of.ensures (h-is a.rec.now.bytes.now) Depth) c.in_err-test_field.ensures)

pub returns-in_err-test_field-2 : goal.returns-in_err-test_field-2
returns-in_err-test_field-2 c =
    let a = c.args in
    let s = state_read a.rec.now.bytes.now in
    let y = c.requires.0 in
    let p = err_from_is_err_and c.from_residual-in_err-test_field-2.result c.from_residual-in_err-test_field-2.ensures.1 in
    rw (p.1, p.2)
    (first-passes (test s Bottom s.b ∷ test s VelocityU s.u ∷ test s VelocityV s.v ∷ last s ∷ []) (own-test y Four 4 c.numbers_of.ensures (h-is a.rec.now.bytes.now) Depth) c.in_ok-test_field.ensures
    (first-refuses (test s VelocityU s.u ∷ test s VelocityV s.v ∷ last s ∷ []) (own-test y Four 5 c.numbers_of-2.ensures (b-is a.rec.now.bytes.now) Bottom) c.in_err-test_field-2.ensures))

pub returns-in_err-test_field-3 : goal.returns-in_err-test_field-3
returns-in_err-test_field-3 c =
    let a = c.args in
    let s = state_read a.rec.now.bytes.now in
    let y = c.requires.0 in
    let p = err_from_is_err_and c.from_residual-in_err-test_field-3.result c.from_residual-in_err-test_field-3.ensures.1 in
    rw (p.1, p.2)
    (first-passes (test s Bottom s.b ∷ test s VelocityU s.u ∷ test s VelocityV s.v ∷ last s ∷ []) (own-test y Four 4 c.numbers_of.ensures (h-is a.rec.now.bytes.now) Depth) c.in_ok-test_field.ensures
    (first-passes (test s VelocityU s.u ∷ test s VelocityV s.v ∷ last s ∷ []) (own-test y Four 5 c.numbers_of-2.ensures (b-is a.rec.now.bytes.now) Bottom) c.in_ok-test_field-2.ensures
    (first-refuses (test s VelocityV s.v ∷ last s ∷ []) (own-test y Two 6 c.numbers_of-3.ensures (u-is a.rec.now.bytes.now) VelocityU) c.in_err-test_field-3.ensures)))

pub returns-in_err-test_field-4 : goal.returns-in_err-test_field-4
returns-in_err-test_field-4 c =
    let a = c.args in
    let s = state_read a.rec.now.bytes.now in
    let y = c.requires.0 in
    let p = err_from_is_err_and c.from_residual-in_err-test_field-4.result c.from_residual-in_err-test_field-4.ensures.1 in
    rw (p.1, p.2)
    (first-passes (test s Bottom s.b ∷ test s VelocityU s.u ∷ test s VelocityV s.v ∷ last s ∷ []) (own-test y Four 4 c.numbers_of.ensures (h-is a.rec.now.bytes.now) Depth) c.in_ok-test_field.ensures
    (first-passes (test s VelocityU s.u ∷ test s VelocityV s.v ∷ last s ∷ []) (own-test y Four 5 c.numbers_of-2.ensures (b-is a.rec.now.bytes.now) Bottom) c.in_ok-test_field-2.ensures
    (first-passes (test s VelocityV s.v ∷ last s ∷ []) (own-test y Two 6 c.numbers_of-3.ensures (u-is a.rec.now.bytes.now) VelocityU) c.in_ok-test_field-3.ensures
    (first-refuses (last s ∷ []) (own-test y Two 7 c.numbers_of-4.ensures (v-is a.rec.now.bytes.now) VelocityV) c.in_err-test_field-4.ensures))))

pub returns : goal.returns
returns c =
    let a = c.args in
    let s = state_read a.rec.now.bytes.now in
    let y = c.requires.0 in
    first-passes (test s Bottom s.b ∷ test s VelocityU s.u ∷ test s VelocityV s.v ∷ last s ∷ []) (own-test y Four 4 c.numbers_of.ensures (h-is a.rec.now.bytes.now) Depth) c.in_ok-test_field.ensures
    (first-passes (test s VelocityU s.u ∷ test s VelocityV s.v ∷ last s ∷ []) (own-test y Four 5 c.numbers_of-2.ensures (b-is a.rec.now.bytes.now) Bottom) c.in_ok-test_field-2.ensures
    (first-passes (test s VelocityV s.v ∷ last s ∷ []) (own-test y Two 6 c.numbers_of-3.ensures (u-is a.rec.now.bytes.now) VelocityU) c.in_ok-test_field-3.ensures
    (first-passes (last s ∷ []) (own-test y Two 7 c.numbers_of-4.ensures (v-is a.rec.now.bytes.now) VelocityV) c.in_ok-test_field-4.ensures
    (c.test_barriers.ensures ∙ bytes-tested c.value_of.result.now s.barriers (cells s) (value-bytes c.value_of.ensures (cells_are y) c.requires.1)))))
