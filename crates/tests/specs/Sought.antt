-- What scans seek: a number outside a range, a velocity on a closed edge, a byte that is no barrier.
use Rattle.std.specs.Prelude.{◌≡◌, refl, Bool, not, ◌&&◌, List, [], ◌∷◌, map, ℕ, ◌*◌, ◌/◌, ◌%◌, ℤ, pos, get_or}
use Rattle.model.specs.Numbers.{within, eqℤ}
use Rattle.model.specs.State.{State, state_of, closed_west, closed_south}
use Rattle.model.specs.Tests.{Test, seeks}
use Rattle.model.specs.Refusals.{taken_of, value_test, edge_tests}
use Rattle.model.specs.declared.Parameters.{Parameters}
use Rattle.model.specs.declared.Field.{Field}
use Rattle.model.specs.declared.Field.TheVariants.{VelocityU, VelocityV, Barriers}
use Rattle.model.specs.declared.Refusal.{Refusal}
use Rattle.model.specs.declared.Refusal.TheVariants.{Value, ClosedEdge}
use Rattle.integers.specs.declared.Range.{Range}
use Rattle.integers.specs.Ranges.{between}
use Rattle.grid.specs.Barred.{closed_at}
use Rattle.grid.specs.declared.Edge.{Edge}
use Rattle.grid.specs.declared.Edge.TheVariants.{West, South}

-- ---- a number outside a range

abbrev pub outside_in : Range → List ℤ → ℕ → Bool
outside_in l f k = not (within (between l) (get_or f k (pos 0)))

-- ---- a velocity on a closed edge

-- a state without fields, but for its barriers; and without these
abbrev pub edges_of : Parameters → (barriers : List ℕ) → State
edges_of p barriers = state_of p [] [] [] [] barriers

abbrev pub bare : Parameters → State
bare p = edges_of p []

-- whether x at cell (i, j) is one
abbrev pub moving_at : State → Edge → ℤ → ℕ → ℕ → Bool
moving_at s edge x i j = closed_at s edge i j && not (eqℤ x (pos 0))

-- a test of the cell with index k of a field f of w columns
abbrev pub bad_in : (ℤ → ℕ → ℕ → Bool) → ℕ → List ℤ → ℕ → Bool
bad_in bad w f k = bad (get_or f k (pos 0)) (k % w) (k / w)

-- test 5 of one field
abbrev pub still_test : Parameters → (barriers : List ℕ) → Edge → Field → List ℤ → Test Refusal
still_test p barriers edge field f = seeks (bad_in (moving_at (edges_of p barriers) edge) p.w f) (p.w * p.n) (ClosedEdge field)

-- u before v, as the model has them
pub edges_are : (p : Parameters) (h b u v : List ℤ) (barriers : List ℕ)
    → still_test p barriers West VelocityU u ∷ still_test p barriers South VelocityV v ∷ [] ≡ edge_tests (state_of p h b u v barriers)
unfolding closed_west closed_south
edges_are p h b u v barriers = refl

-- ---- a byte of barriers outside its limits

-- test 4 of the barriers of m cells
abbrev pub barriers_test : (barriers : List ℕ) (m : ℕ) → Test Refusal
barriers_test barriers m = value_test Value (taken_of m Barriers (map pos barriers))
