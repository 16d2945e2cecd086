-- Tests in order. The test of a call is a list of these, and so is that of a record. What they find is a refusal, or a place (Step.antt).
use Rattle.std.specs.Prelude.{Bool, true, false, List, [], ◌∷◌, ℕ}
use Rattle.std.specs.Prelude.{Option, None, Some}
use Rattle.model.specs.Grid.{first_from}

-- a test asks something that must hold, or seeks the lowest of m indices at which something is bad; with what is found where it fails
pub data Test (R : Type 0) : Type 0 where
  asks : Bool → R → Test R
  seeks : (bad : ℕ → Bool) (m : ℕ) → (ℕ → R) → Test R

abbrev pub must : {R : Type 0} → Bool → R → Option R
must true r = None
must false r = Some r

abbrev pub found_at : {R : Type 0} → (ℕ → R) → Option ℕ → Option R
found_at r None = None
found_at r (Some k) = Some (r k)

abbrev pub found : {R : Type 0} → Test R → Option R
found (asks t r) = must t r
found (seeks bad m r) = found_at r (first_from bad m 0)

-- the first of two findings, and of a list of tests
infixr 20 ◌then◌
abbrev pub ◌then◌ : {R : Type 0} → Option R → Option R → Option R
None then b = b
Some r then b = Some r

abbrev pub first_found : {R : Type 0} → List (Test R) → Option R
first_found [] = None
first_found (t ∷ l) = found t then first_found l
