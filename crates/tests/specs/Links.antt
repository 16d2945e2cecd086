-- What tests answer, one list of them after another. Assumes nothing.
use Rattle.std.specs.Prelude.{◌≡◌, refl, not, false, ◌&&◌, List, [], ◌∷◌, ◌++◌, map, ℕ, ◌*◌, ◌≤◌, ℤ, pos, length, get_or}
use Rattle.std.proofs.Common.{sym, ap, ap₂, ◌∙◌, zero-le, le-leb}
use Rattle.std.specs.Prelude.{Option, None, Some, Ok, Err}
use Rattle.std.proofs.Math.ListN.{get_or-map}
use Rattle.model.specs.Numbers.{within, barrier_limits}
use Rattle.model.specs.State.{State, parameters_of, cells}
use Rattle.model.specs.Answers.{Answer}
use Rattle.model.specs.Tests.{Test, ◌then◌, first_found}
use Rattle.model.specs.Refusals.{fields_of, grid_test, length_test, length_tests, constants_test}
use Rattle.model.specs.Promises.{answer_of}
use Rattle.model.specs.Claims.{EachPasses}
use Rattle.model.specs.declared.Parameters.{Parameters}
use Rattle.model.specs.declared.Refusal.{Refusal}
use Rattle.grid.specs.Cells.{cells-most}
use Rattle.theorems.specs.Truth.{differ}
use Rattle.theorems.specs.TestLaws.{passes, found-append}
use Rattle.theorems.specs.Limits.{Known, known-iff}
use Rattle.tests.specs.Sought.{barriers_test}

-- what a call that makes these tests answers
abbrev pub answers : List (Test Refusal) → Answer
answers l = answer_of (first_found l)

-- each field of a state has a number for each cell
pub record FieldsLong (s : State) : Type 0 where
  pub h : length s.h ≡ cells s
  pub b : length s.b ≡ cells s
  pub u : length s.u ≡ cells s
  pub v : length s.v ≡ cells s
  pub barriers : length s.barriers ≡ cells s

-- ---- one list of tests after another

refused-by : {r : Refusal} (o p : Option Refusal) → answer_of o ≡ Err r → answer_of (o then p) ≡ Err r
refused-by None p e = differ (cc e)
refused-by (Some x) p e = e

passed-by : (o p : Option Refusal) → answer_of o ≡ Ok tt → answer_of (o then p) ≡ answer_of p
passed-by None p e = refl
passed-by (Some x) p e = differ (cc e)

-- what the first of them refuse is refused
pub refused_first : {r : Refusal} (l k : List (Test Refusal)) → answers l ≡ Err r → answers (l ++ k) ≡ Err r
refused_first l k e = ap answer_of (found-append l k) ∙ refused-by (first_found l) (first_found k) e

-- where they pass, the others decide
pub passed_first : (l k : List (Test Refusal)) → answers l ≡ Ok tt → answers (l ++ k) ≡ answers k
passed_first l k e = ap answer_of (found-append l k) ∙ passed-by (first_found l) (first_found k) e

-- ---- what has passed

pub accepted-none : (o : Option Refusal) → Ok tt ≡ answer_of o → o ≡ None
accepted-none None e = refl
accepted-none (Some r) e = differ (cc e)

pub refused-some : (o : Option Refusal) (r : Refusal) → Err r ≡ answer_of o → o ≡ Some r
refused-some None r e = differ (cc e)
refused-some (Some x) r e = let h : x ≡ r = cc e in ap Some h

pub each-passed : (l : List (Test Refusal)) → answers l ≡ Ok tt → EachPasses l
each-passed l e = (passes l).0 (accepted-none (first_found l) (sym e))

-- test 1 of a grid
pub grid-passed : (p : Parameters) → answers (grid_test p ∷ []) ≡ Ok tt → Known p
grid-passed p e = (known-iff p).0 (each-passed (grid_test p ∷ []) e).0

pub few-cells : {p : Parameters} → Known p → p.w * p.n ≤ 4096
few-cells k = cells-most k.columns k.rows

-- test 2 of a state's own fields, where they must have m numbers
abbrev pub own_lengths : (h b u v : List ℤ) (barriers : List ℕ) (m : ℕ) → List (Test Refusal)
own_lengths h b u v barriers m =
    length_test m (length h) ∷ length_test m (length b) ∷ length_test m (length u) ∷ length_test m (length v) ∷ length_test m (length (map pos barriers)) ∷ []

-- tests 1, 2 and 3 of a state
abbrev pub outline_tests : State → List (Test Refusal)
outline_tests s = grid_test (parameters_of s) ∷ (length_tests (fields_of s) ++ (constants_test (parameters_of s) ∷ []))

-- ---- bytes of barriers that are all 3 at most: none is found

pub small-inside : (l : List ℕ) (m : ℕ) → ((k : ℕ) → get_or l k 0 ≤ 3) → answers (barriers_test l m ∷ []) ≡ Ok tt
unfolding within barrier_limits
small-inside l m h = ap answer_of ((passes (barriers_test l m ∷ [])).1 (λ k p. inside k, tt))
  where
    inside : (k : ℕ) → not (within barrier_limits (get_or (map pos l) k (pos 0))) ≡ false
    inside k =
        ap (λ x. not (within barrier_limits x)) (get_or-map pos l k 0)
        ∙ ap₂ (λ a b. not (a && b)) (le-leb 0 (get_or l k 0) zero-le) (le-leb (get_or l k 0) 3 (h k))
