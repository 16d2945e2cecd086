-- `record_tests::examine` meets its contract. Assumes nothing.
use Rattle.std.proofs.Common.{◌≡◌, sym, [], ◌∷◌}
use Rattle.std.proofs.lemmas.Result.{err_from_is_err_and}
use Rattle.record_tests.proofs.OrderLaws.{examined-damaged, examined-refused}
use Rattle.record_tests.proofs.examine.Goals as goal

-- a refusal of test 7 stays
pub returns-in_err-record : goal.returns-in_err-record
returns-in_err-record c =
    let p = err_from_is_err_and c.from_residual.result c.from_residual.ensures.1 in
    rw (p.1, p.2) (examined-damaged c.args.rec.now (c.args.room ∷ []) c.in_err-record.ensures)

-- test 7 has passed: the tags have their places
pub returns-in_err-test_record : goal.returns-in_err-test_record
returns-in_err-test_record c =
    let p = err_from_is_err_and c.from_residual-in_err-test_record.result c.from_residual-in_err-test_record.ensures.1 in
    let r = c.in_ok-record.record in
    let e : r.bytes.now ≡ c.args.rec.now = c.in_ok-record.ensures in
    rw (p.1, p.2, sym e) (examined-refused r.bytes.now (c.args.room ∷ []) r.placed.walks c.in_err-test_record.ensures)
