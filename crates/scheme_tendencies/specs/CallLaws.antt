-- From the tests of a call that fills, as the code makes them, to its promise; for destinations of any elements. Assumes nothing.
use Rattle.std.specs.Prelude.{◌≡◌, List, [], ◌∷◌, ℕ, ◌≤◌, ℤ, length}
use Rattle.std.proofs.Common.{sym, ap, ◌∙◌}
use Rattle.std.specs.Prelude.{Option, None, Some}
use Rattle.model.specs.State.{State, cells, corners, WithinLimits}
use Rattle.model.specs.Tests.{Test, first_found}
use Rattle.model.specs.Refusals.{Taken, state_tests, room_tests, call_tests}
use Rattle.model.specs.Promises.{Filling, filled_by, Fills, vorticity_tests, vorticity_test, tendencies_test}
use Rattle.model.specs.Claims.{held, EachWithin}
use Rattle.model.specs.declared.Refusal.{Refusal}
use Rattle.std.specs.Prelude.{Ok, Err}
use Rattle.theorems.specs.Truth.{◌⟫◌}
use Rattle.theorems.specs.TestLaws.{passes}
use Rattle.theorems.specs.Limits.{accepted, tendencies-taken}
use Rattle.theorems.specs.Causes.{kept}
use Rattle.theorems.specs.RoundTrip.{bars-long}
use Rattle.tests.specs.Links.{answers, refused_first, passed_first, each-passed, accepted-none, refused-some}
use Rattle.scheme.specs.Ready.{TendenciesReady, ready}

-- ---- what the tests of a call find: those of the state and of further fields, then those of its destinations

module _ (s : State) (further : List Taken) (m : ℕ) (rooms : List ℕ) where
  abbrev tests : List (Test Refusal)
  tests = state_tests s further [] []

  pub state-passed : answers tests ≡ Ok tt → WithinLimits s × EachWithin further
  state-passed e = let p = (accepted.state s further [] []).0 (each-passed tests e) in (p.0, p.1)

  pub state-refused : {r : Refusal} → answers tests ≡ Err r → first_found (call_tests s further m rooms) ≡ Some r
  state-refused {r} e = refused-some _ r (sym (refused_first tests (room_tests m rooms) e))

  pub rooms-refused : {r : Refusal} → answers tests ≡ Ok tt → answers (room_tests m rooms) ≡ Err r → first_found (call_tests s further m rooms) ≡ Some r
  rooms-refused {r} e f = refused-some _ r (sym (passed_first tests (room_tests m rooms) e ∙ f))

  pub all-passed : answers tests ≡ Ok tt → answers (room_tests m rooms) ≡ Ok tt → first_found (call_tests s further m rooms) ≡ None
  all-passed e f = accepted-none _ (sym (passed_first tests (room_tests m rooms) e ∙ f))

-- ---- by what its test found

module _ {B A : Type 0} (by : Option Refusal → B) (tell : B → List ℤ) {test : Option Refusal} (m : ℕ) (ds : List (Filling A)) where
  pub fill_done : {a : B} {ds' : List (List A)} → test ≡ None → a ≡ by None → ds' ≡ filled_by None m ds → Fills by tell test m ds a ds'
  fill_done o e f =
      let a = e ∙ ap by (sym o) in
      record { answers = a; tells = ap tell a; fills = f ∙ ap (λ o. filled_by o m ds) (sym o) }

  pub fill-refused : {a : B} (r : Refusal) → test ≡ Some r → a ≡ by (Some r) → Fills by tell test m ds a (held ds)
  fill-refused r o e =
      let a = e ∙ ap by (sym o) in
      record { answers = a; tells = ap tell a; fills = sym (ap (λ o. filled_by o m ds) o ∙ kept r m ds) }

-- ---- what has passed: the state is within the limits, and its destinations have room

-- the three destinations have room for m elements
pub record Room {A : Type 0} (m : ℕ) (dh du dv : List A) : Type 0 where
  pub h : m ≤ length dh
  pub u : m ≤ length du
  pub v : m ≤ length dv

pub vorticity-passed : (s : State) (room : ℕ) → vorticity_test s room ≡ None → WithinLimits s × (corners s ≤ room)
unfolding vorticity_test
vorticity-passed s room e =
    let a = (passes (vorticity_tests s room) ⟫ accepted.call s [] (corners s) (room ∷ [])).0 e in (a.0, a.2.0)

pub tendencies-passed : {A : Type 0} (s : State) (q : List ℤ) (dh du dv : List A)
    → tendencies_test s q (length dh) (length du) (length dv) ≡ None
    → TendenciesReady s q × (length s.barriers ≡ cells s) × Room (cells s) dh du dv
tendencies-passed s q dh du dv e =
    let a = (tendencies-taken s q (length dh) (length du) (length dv)).0 e in
    (ready a.0.0 a.0.1, bars-long s a.0.0, record { h = a.1; u = a.2; v = a.3 })
