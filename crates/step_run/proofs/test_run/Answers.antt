-- The tests are the model's list. Assumes nothing.
use Rattle.std.proofs.Common.{[], ◌∷◌, ◌++◌, ◌∙◌, arith, sym, length}
use Rattle.std.proofs.lemmas.Result.{err_from_is_err_and}
use Rattle.model.specs.State.{lent_state, cells}
use Rattle.model.specs.Refusals.{fields_of, taken, grid_test, run_length_test, length_test, length_tests, work_test, constants_test, value_tests, edge_tests}
use Rattle.model.specs.Step.{run_test}
use Rattle.model.specs.declared.Field.TheVariants.{Inflow}
use Rattle.model.specs.declared.Refusal.TheVariants.{Value}
use Rattle.tests.specs.Links.{grid-passed, few-cells, passed_first, refused_first}
use Rattle.step_run.proofs.test_run.Goals as goal

pub overflow_mul-m : goal.overflow_mul-m
overflow_mul-m c = omega (arith, few-cells (grid-passed c.args.s.now.p (sym c.in_ok-test_grid.ensures)))

pub test_work-requires : goal.test_work-requires
test_work-requires c = few-cells (grid-passed c.args.s.now.p (sym c.in_ok-test_grid.ensures))

pub returns-in_err-test_fields : goal.returns-in_err-test_fields
unfolding run_test
returns-in_err-test_fields c =
    let a = c.args in
    let s = lent_state a.s.now in
    let p = err_from_is_err_and c.from_residual-in_err-test_fields.result c.from_residual-in_err-test_fields.ensures.1 in
    let edges = value_tests Value (taken s Inflow a.inflow.now ∷ []) ++ edge_tests s in
    let values = value_tests Value (fields_of s) ++ edges in
    let constants = constants_test a.s.now.p ∷ values in
    let work = work_test (cells s) a.room ∷ constants in
    let inflow = length_test (cells s) (length a.inflow.now) ∷ work in
    let lengths = length_tests (fields_of s) ++ inflow in
    let run = run_length_test a.steps ∷ lengths in
    let one = passed_first (grid_test a.s.now.p ∷ []) run (sym c.in_ok-test_grid.ensures) in
    let two = passed_first (run_length_test a.steps ∷ []) lengths (sym c.in_ok-test_run_length.ensures) in
    let three = passed_first (length_tests (fields_of s)) inflow (sym c.in_ok-test_lengths.ensures) in
    let four = passed_first (length_test (cells s) (length a.inflow.now) ∷ []) work (sym c.in_ok-test_length.ensures) in
    let five = passed_first (work_test (cells s) a.room ∷ []) constants (sym c.in_ok-test_work.ensures) in
    let six = passed_first (constants_test a.s.now.p ∷ []) values (sym c.in_ok-test_constants.ensures) in
    let seven = refused_first (value_tests Value (fields_of s)) edges (sym c.in_err-test_fields.ensures) in
    rw (p.1, p.2) (sym (one ∙ two ∙ three ∙ four ∙ five ∙ six ∙ seven))
