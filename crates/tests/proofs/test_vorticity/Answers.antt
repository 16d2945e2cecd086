-- The tests are the model's list. Assumes nothing.
use Rattle.std.proofs.Common.{◌∙◌, arith, sym, length}
use Rattle.std.proofs.lemmas.Result.{err_from_is_err_and}
use mathlib.Core.List.{[], ◌∷◌, ◌++◌}
use Rattle.model.specs.State.{lent_state, corners}
use Rattle.model.specs.Refusals.{fields_of, taken, grid_test, length_test, length_tests, constants_test, value_tests, edge_tests}
use Rattle.model.specs.declared.Field.TheVariants.{Vorticity}
use Rattle.model.specs.declared.Refusal.TheVariants.{Value}
use Rattle.tests.specs.Links.{grid-passed, few-cells, passed_first, refused_first}
use Rattle.tests.proofs.test_vorticity.Goals as goal

pub overflow_mul-cells : goal.overflow_mul-cells
overflow_mul-cells c = omega (arith, few-cells (grid-passed c.args.s.now.p (sym c.in_ok-test_grid.ensures)))

pub corner_count-requires : goal.corner_count-requires
corner_count-requires c = let k = grid-passed c.args.s.now.p (sym c.in_ok-test_grid.ensures) in (k.columns, k.rows)

pub returns-in_err-test_fields : goal.returns-in_err-test_fields
returns-in_err-test_fields c =
    let a = c.args in
    let s = lent_state a.s.now in
    let q = taken s Vorticity a.q.now ∷ [] in
    let p = err_from_is_err_and c.from_residual-in_err-test_fields.result c.from_residual-in_err-test_fields.ensures.1 in
    let edges = value_tests Value q ++ edge_tests s in
    let values = value_tests Value (fields_of s) ++ edges in
    let constants = constants_test a.s.now.p ∷ values in
    let corner = length_test (corners s) (length a.q.now) ∷ constants in
    let lengths = length_tests (fields_of s) ++ corner in
    let one = passed_first (grid_test a.s.now.p ∷ []) lengths (sym c.in_ok-test_grid.ensures) in
    let two = passed_first (length_tests (fields_of s)) corner (sym c.in_ok-test_lengths.ensures) in
    let three = passed_first (length_test (corners s) (length a.q.now) ∷ []) constants (rw (← c.corner_count.ensures.0) (sym c.in_ok-test_length.ensures)) in
    let four = passed_first (constants_test a.s.now.p ∷ []) values (sym c.in_ok-test_constants.ensures) in
    rw (p.1, p.2) (sym (one ∙ two ∙ three ∙ four ∙ refused_first (value_tests Value (fields_of s)) edges (sym c.in_err-test_fields.ensures)))
