-- The tests are the model's list, by the parameters and the timestamp read. Assumes nothing.
use Rattle.std.specs.Prelude.{Option}
use Rattle.std.proofs.Common.{◌≡◌, ◌*◌, ◌≤◌, List, ℕ, [], ◌∷◌, ◌++◌, refl, ap₂, sym, ◌∙◌, arith, Ok}
use Rattle.std.proofs.lemmas.Result.{err_from_is_err_and}
use Rattle.model.specs.State.{State, parameters_of}
use Rattle.model.specs.Tests.{Test}
use Rattle.model.specs.Refusals.{fields_of, grid_test, room_test, constants_test, time_test, value_tests, edge_tests}
use Rattle.model.specs.Record.{Part, timestamp_in, tag_table, bytes_tests, record_test}
use Rattle.model.specs.Promises.{answer_of}
use Rattle.model.specs.Claims.{BytesOf}
use Rattle.model.specs.declared.Parameters.{Parameters}
use Rattle.model.specs.declared.Timestamp.{Timestamp}
use Rattle.model.specs.declared.Refusal.{Refusal}
use Rattle.model.specs.declared.Refusal.TheVariants.{Value}
use Rattle.theorems.specs.Damage.{whole-iff}
use Rattle.tests.specs.Links.{answers, grid-passed, few-cells, passed_first, refused_first}
use Rattle.record_tags.specs.Places.{parts_in, Placed}
use Rattle.record_tests.specs.RecordTested.{state_read, Meant}
use Rattle.record_tests.proofs.OrderLaws.{bytes-passed}
use Rattle.record_tests.proofs.test_record.Goals as goal

-- the parameters and the timestamp read are the record's
module _ (rec : List ℕ) (room : ℕ) {p : Parameters} (e : p ≡ parameters_of (state_read rec)) {t : Timestamp} (f : t ≡ timestamp_in (parts_in rec)) where
  abbrev s : State
  s = state_read rec

  abbrev parts : List Part
  parts = parts_in rec

  -- tests 2, then 8, 3, 9, then 4 and 5
  abbrev bytes : List (Test Refusal)
  bytes = bytes_tests (p.w * p.n) parts tag_table

  abbrev values : List (Test Refusal)
  values = value_tests Value (fields_of s) ++ edge_tests s

  abbrev middle : List (Test Refusal)
  middle = room_test (p.w * p.n) room ∷ constants_test p ∷ time_test t ∷ values

  listed : answers (grid_test p ∷ (bytes ++ middle)) ≡ answer_of (record_test s (timestamp_in parts) parts (room ∷ []))
  unfolding record_test
  listed = ap₂ (λ (p : Parameters) t. answers (grid_test p ∷ (bytes_tests (p.w * p.n) parts tag_table ++ (room_test (p.w * p.n) room ∷ constants_test p ∷ time_test t ∷ values)))) e f

  module _ (one : Ok tt ≡ answers (grid_test p ∷ [])) where
    most : p.w * p.n ≤ 4096
    most = few-cells (grid-passed p (sym one))

    from-bytes : answers (bytes ++ middle) ≡ answer_of (record_test s (timestamp_in parts) parts (room ∷ []))
    from-bytes = sym (passed_first (grid_test p ∷ []) (bytes ++ middle) (sym one)) ∙ listed

    module _ (two : Ok tt ≡ answers bytes) where
      ready : {at : List (Option ℕ)} → Placed rec at → Meant rec p × BytesOf (p.w * p.n) parts × (p.w * p.n ≤ 4096)
      ready y = (record { parameters = e }, bytes-passed (p.w * p.n) parts ((whole-iff rec parts).0 y.walks).1 (sym two), most)

      from-middle : answers middle ≡ answer_of (record_test s (timestamp_in parts) parts (room ∷ []))
      from-middle = sym (passed_first bytes middle (sym two)) ∙ from-bytes

      from-values : Ok tt ≡ answers (room_test (p.w * p.n) room ∷ []) → Ok tt ≡ answers (constants_test p ∷ []) → Ok tt ≡ answers (time_test t ∷ [])
          → answers values ≡ answer_of (record_test s (timestamp_in parts) parts (room ∷ []))
      from-values eight three nine =
          sym (passed_first (room_test (p.w * p.n) room ∷ []) (constants_test p ∷ time_test t ∷ values) (sym eight)
          ∙ passed_first (constants_test p ∷ []) (time_test t ∷ values) (sym three) ∙ passed_first (time_test t ∷ []) values (sym nine))
          ∙ from-middle

pub overflow_mul-m : goal.overflow_mul-m
overflow_mul-m c = omega (arith, most c.args.rec.now.bytes.now c.args.room c.parameters_in-p.ensures refl c.in_ok-test_grid.ensures)

pub test_values-requires : goal.test_values-requires
test_values-requires c = most c.args.rec.now.bytes.now c.args.room c.parameters_in-p.ensures refl c.in_ok-test_grid.ensures

pub returns-in_err-test_values : goal.returns-in_err-test_values
returns-in_err-test_values c =
    let rec = c.args.rec.now.bytes.now in
    let e = c.parameters_in-p.ensures in
    let p = err_from_is_err_and c.from_residual-in_err-test_values.result c.from_residual-in_err-test_values.ensures.1 in
    rw (p.1, p.2) (sym (refused_first (bytes rec c.args.room e refl) (middle rec c.args.room e refl) (sym c.in_err-test_values.ensures)) ∙ from-bytes rec c.args.room e refl c.in_ok-test_grid.ensures)

pub test_fields_in-requires : goal.test_fields_in-requires
test_fields_in-requires c = ready c.args.rec.now.bytes.now c.args.room c.parameters_in-p.ensures c.timestamp_in.ensures c.in_ok-test_grid.ensures c.in_ok-test_values.ensures c.args.rec.now.placed

pub returns-in_err-test_fields_in : goal.returns-in_err-test_fields_in
returns-in_err-test_fields_in c =
    let s = state_read c.args.rec.now.bytes.now in
    let p = err_from_is_err_and c.from_residual-in_err-test_fields_in.result c.from_residual-in_err-test_fields_in.ensures.1 in
    rw (p.1, p.2)
    (sym (refused_first (value_tests Value (fields_of s)) (edge_tests s) (sym c.in_err-test_fields_in.ensures))
    ∙ from-values c.args.rec.now.bytes.now c.args.room c.parameters_in-p.ensures c.timestamp_in.ensures c.in_ok-test_grid.ensures c.in_ok-test_values.ensures c.in_ok-test_room.ensures c.in_ok-test_constants.ensures c.in_ok-test_time.ensures)

pub test_edges_in-requires : goal.test_edges_in-requires
test_edges_in-requires c = ready c.args.rec.now.bytes.now c.args.room c.parameters_in-p.ensures c.timestamp_in.ensures c.in_ok-test_grid.ensures c.in_ok-test_values.ensures c.args.rec.now.placed

pub returns : goal.returns
returns c =
    let s = state_read c.args.rec.now.bytes.now in
    c.test_edges_in.ensures ∙ sym (passed_first (value_tests Value (fields_of s)) (edge_tests s) (sym c.in_ok-test_fields_in.ensures))
    ∙ from-values c.args.rec.now.bytes.now c.args.room c.parameters_in-p.ensures c.timestamp_in.ensures c.in_ok-test_grid.ensures c.in_ok-test_values.ensures c.in_ok-test_room.ensures c.in_ok-test_constants.ensures c.in_ok-test_time.ensures
