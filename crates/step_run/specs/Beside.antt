-- The tests of a step of a state that is within the limits: those of what it takes beside the state. Assumes nothing.
use Rattle.std.specs.Prelude.{◌≡◌, refl, List, [], ◌∷◌, ◌++◌, ℕ, ℤ, length}
use Rattle.std.proofs.Common.{sym, ap, ◌∙◌}
use Rattle.std.specs.Prelude.{Option, None, Some}
use Rattle.model.specs.State.{State, parameters_of, cells, WithinLimits}
use Rattle.model.specs.Fields.{limits_of}
use Rattle.model.specs.Tests.{Test, ◌then◌, first_found}
use Rattle.model.specs.Refusals.{taken, fields_of, grid_test, run_length_test, length_test, length_tests, work_test, constants_test, value_test, value_tests, edge_tests}
use Rattle.model.specs.Step.{run_test}
use Rattle.model.specs.Claims.{EachPasses}
use Rattle.model.specs.declared.Field.TheVariants.{Inflow}
use Rattle.model.specs.declared.Refusal.{Refusal}
use Rattle.model.specs.declared.Refusal.TheVariants.{Value}
use Rattle.theorems.specs.TestLaws.{passes, passes_append, found-append}
use Rattle.theorems.specs.Limits.{tested-iff}

abbrev pub beside_tests : ℕ → (inflow : List ℤ) (room : ℕ) → List (Test Refusal)
beside_tests m inflow room =
    length_test m (length inflow) ∷ work_test m room ∷ value_test Value (record { field = Inflow; count = m; limits = limits_of Inflow; numbers = inflow }) ∷ []

-- tests that pass may be left out, before others and after them
skip : (a b : List (Test Refusal)) → EachPasses a → first_found (a ++ b) ≡ first_found b
skip a b p = found-append a b ∙ ap (λ o. o then first_found b) ((passes a).1 p)

then-none : (o : Option Refusal) → o then None ≡ o
then-none None = refl
then-none (Some r) = refl

cut : (a b : List (Test Refusal)) → EachPasses b → first_found (a ++ b) ≡ first_found a
cut a b p = found-append a b ∙ ap (λ o. first_found a then o) ((passes b).1 p) ∙ then-none (first_found a)

within : (a b c : List (Test Refusal)) → EachPasses b → first_found (a ++ (b ++ c)) ≡ first_found (a ++ c)
within a b c p = found-append a (b ++ c) ∙ ap (λ o. first_found a then o) (skip b c p) ∙ sym (found-append a c)

-- a run of one step has a length that passes, so a step's tests are these
pub beside-only : (s : State) (inflow : List ℤ) (room : ℕ) → WithinLimits s → run_test s inflow 1 room ≡ first_found (beside_tests (cells s) inflow room)
unfolding run_test
beside-only s inflow room l =
    let t = (tested-iff s []).1 (l, tt) in
    let v = (passes_append (value_tests Value (fields_of s)) (edge_tests s)).0 t.content.1 in
    let sizes = length_test (cells s) (length inflow) ∷ work_test (cells s) room ∷ [] in
    let value = value_test Value (taken s Inflow inflow) ∷ [] in
    skip (grid_test (parameters_of s) ∷ run_length_test 1 ∷ length_tests (fields_of s)) (sizes ++ ((constants_test (parameters_of s) ∷ value_tests Value (fields_of s)) ++ (value ++ edge_tests s))) (t.grid, (tt, t.lengths))
    ∙ within sizes (constants_test (parameters_of s) ∷ value_tests Value (fields_of s)) (value ++ edge_tests s) (t.content.0, v.0)
    ∙ cut (sizes ++ value) (edge_tests s) v.1
