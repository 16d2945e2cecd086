-- What the tests find is the model's; once they have passed, the state is within the limits. Assumes nothing.
use Rattle.std.proofs.Common.{◌≡◌, [], ◌∷◌, ℕ, length, refl, sym, ap}
use Rattle.std.proofs.lemmas.Result.{err_from_is_err_and}
use Rattle.std.specs.Prelude.{Some, None, Ok, Err}
use Rattle.model.specs.State.{State, lent_state, corners}
use Rattle.model.specs.Answers.{told_answer}
use Rattle.model.specs.Scheme.{vorticity}
use Rattle.model.specs.Refusals.{state_tests, room_tests}
use Rattle.model.specs.Promises.{answer_of, ◌into◌, vorticity_test}
use Rattle.model.specs.declared.Refusal.{Refusal}
use Rattle.tests.specs.Links.{answers}
use Rattle.scheme_tendencies.specs.CallLaws.{state-passed, state-refused, rooms-refused, all-passed, fill_done, fill-refused, vorticity-passed}
use Rattle.scheme_tendencies.proofs.potential_vorticity.Goals as goal

-- what the tests find
module _ (s : State) (room : ℕ) where
  vorticity-refused : {r : Refusal} → answers (state_tests s [] [] []) ≡ Err r → vorticity_test s room ≡ Some r
  unfolding vorticity_test
  vorticity-refused e = state-refused s [] (corners s) (room ∷ []) e

  room-refused : {r : Refusal} → answers (state_tests s [] [] []) ≡ Ok tt → answers (room_tests (corners s) (room ∷ [])) ≡ Err r → vorticity_test s room ≡ Some r
  unfolding vorticity_test
  room-refused e f = rooms-refused s [] (corners s) (room ∷ []) e f

  none-found : answers (state_tests s [] [] []) ≡ Ok tt → answers (room_tests (corners s) (room ∷ [])) ≡ Ok tt → vorticity_test s room ≡ None
  unfolding vorticity_test
  none-found e f = all-passed s [] (corners s) (room ∷ []) e f

pub returns-in_err-test_state : goal.returns-in_err-test_state
returns-in_err-test_state c =
    let a = c.args in
    let s = lent_state a.s.now in
    let p = err_from_is_err_and c.from_residual.result c.from_residual.ensures.1 in
    rw (p.1, p.2) (fill-refused answer_of told_answer (corners s) (vorticity s into a.d.now ∷ []) _ (vorticity-refused s (length a.d.now) (sym c.in_err-test_state.ensures)) refl)

pub corner_count-requires : goal.corner_count-requires
corner_count-requires c =
    let a = c.args in
    let l = (state-passed (lent_state a.s.now) [] 0 [] (sym c.in_ok-test_state.ensures)).0 in
    (l.columns, l.rows)

pub returns-in_err-test_room : goal.returns-in_err-test_room
returns-in_err-test_room c =
    let a = c.args in
    let s = lent_state a.s.now in
    let p = err_from_is_err_and c.from_residual-in_err-test_room.result c.from_residual-in_err-test_room.ensures.1 in
    let e = rw c.corner_count.ensures.0 at (sym c.in_err-test_room.ensures) in
    rw (p.1, p.2) (fill-refused answer_of told_answer (corners s) (vorticity s into a.d.now ∷ []) _ (room-refused s (length a.d.now) (sym c.in_ok-test_state.ensures) e) refl)

pub fill_vorticity-requires : goal.fill_vorticity-requires
fill_vorticity-requires c =
    let a = c.args in
    let s = lent_state a.s.now in
    let e = rw c.corner_count.ensures.0 at (sym c.in_ok-test_room.ensures) in
    let l = vorticity-passed s (length a.d.now) (none-found s (length a.d.now) (sym c.in_ok-test_state.ensures) e) in
    (record { columns = l.0.columns; rows = l.0.rows; coriolis = l.0.coriolis; depths = l.0.depths; us = l.0.us; vs = l.0.vs }, l.1)

pub returns : goal.returns
returns c =
    let a = c.args in
    let s = lent_state a.s.now in
    let e = rw c.corner_count.ensures.0 at (sym c.in_ok-test_room.ensures) in
    fill_done answer_of told_answer (corners s) (vorticity s into a.d.now ∷ []) (none-found s (length a.d.now) (sym c.in_ok-test_state.ensures) e) refl
    (ap (λ l. l ∷ []) c.fill_vorticity.ensures)
