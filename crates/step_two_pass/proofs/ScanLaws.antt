-- Laws of scans in order, between what the code finds and the model's refusal 6. Assumes nothing.
use Rattle.std.proofs.Common.{◌≡◌, List, ◌++◌, ℕ, refl, ap, ◌∙◌}
use Rattle.std.specs.Prelude.{Option, None, Some, Ok, Err}
use Rattle.model.specs.Tests.{Test, ◌then◌, first_found}
use Rattle.model.specs.Step.{Place}
use Rattle.model.specs.declared.Breach.{Breach}
use Rattle.theorems.specs.Truth.{differ}
use Rattle.theorems.specs.TestLaws.{found-append}
use Rattle.step_two_pass.specs.Outcomes.{bounds_by}

kept-by : (pass : ℕ) (o q : Option Place) → bounds_by pass o ≡ Ok tt → bounds_by pass (o then q) ≡ bounds_by pass q
kept-by pass None q e = refl
kept-by pass (Some x) q e = differ (cc e)

left-by : (pass : ℕ) {r : Breach} (o q : Option Place) → bounds_by pass o ≡ Err r → bounds_by pass (o then q) ≡ Err r
left-by pass None q e = differ (cc e)
left-by pass (Some x) q e = e

pub kept_first : (pass : ℕ) (l k : List (Test Place)) → bounds_by pass (first_found l) ≡ Ok tt → bounds_by pass (first_found (l ++ k)) ≡ bounds_by pass (first_found k)
kept_first pass l k e = ap (bounds_by pass) (found-append l k) ∙ kept-by pass (first_found l) (first_found k) e

pub left_first : (pass : ℕ) {r : Breach} (l k : List (Test Place)) → bounds_by pass (first_found l) ≡ Err r → bounds_by pass (first_found (l ++ k)) ≡ Err r
left_first pass l k e = ap (bounds_by pass) (found-append l k) ∙ left-by pass (first_found l) (first_found k) e
