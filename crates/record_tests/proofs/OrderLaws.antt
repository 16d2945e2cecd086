-- Tests 1, 2, 8, 3, 9, 4, 5 of a record that passes test 7, as the code makes them. Assumes nothing.
use mathlib.Core.Path.{◌≡◌, refl, sym, ap, ap₂, subst, ◌∙◌}
use mathlib.Core.Logic.{◌⊎◌, ⊎_elim}
use mathlib.Core.Bool.{Bool, true, false, not, ◌&&◌, ◌||◌}
use mathlib.Core.List.{List, [], ◌∷◌, ◌++◌}
use Prim.Native.Nat.{ℕ, ◌+◌, ◌*◌, ◌/◌, ◌%◌, ◌≤◌, zero-le}
use lib.Dec.{T}
use lib.IntN.{ℤ, pos}
use lib.ListN.{length, get_or, replicate}
use Rattle.model.specs.Numbers.{eqℤ}
use Rattle.model.specs.State.{State, state_of, parameters_of, cells, boundary_of, wall_west, wall_south, bars_west, bars_south, closed_west, closed_south}
use Rattle.model.specs.Tests.{Test, seeks, must, ◌then◌, first_found}
use Rattle.model.specs.Refusals.{taken_of, value_test, fields_of, grid_known, edge_tests, timed_content_tests, room_tests}
use Rattle.model.specs.Record.{tag_table, Part, value_of, bytes_tests, record_test, Walked, damaged, whole, walked, state_in, timestamp_in, refused, judged, read_by, decode}
use Rattle.model.specs.Promises.{answer_of}
use Rattle.model.specs.Claims.{Missing, BytesOf}
use Rattle.model.specs.declared.Parameters.{Parameters}
use Rattle.model.specs.declared.Timestamp.{Timestamp}
use Rattle.model.specs.declared.Field.{Field}
use Rattle.model.specs.declared.Field.TheVariants.{VelocityU, VelocityV}
use Rattle.model.specs.declared.Refusal.{Refusal}
use Rattle.model.specs.declared.Refusal.TheVariants.{Grid, Value, ClosedEdge}
use Rattle.std.specs.Prelude.{Ok, Err}
use Rattle.model.specs.Answers.{Answer}
use Rattle.theorems.specs.Truth.{true-T}
use Rattle.theorems.specs.TestLaws.{found-append}
use Rattle.theorems.specs.RoundTrip.{bytes-iff}
use Rattle.grid.specs.CellFields.{same_at}
use Rattle.grid.specs.declared.Edge.{Edge}
use Rattle.grid.specs.declared.Edge.TheVariants.{West, South}
use Rattle.tests.specs.Sought.{still_test, edges_are, barriers_test}
use Rattle.tests.specs.Links.{answers, refused_first, passed_first, each-passed, small-inside, refused-some}
use Rattle.record_bytes.specs.declared.Size.{Size}
use Rattle.record_bytes.specs.NumberSizes.{numbers_by}
use Rattle.record_tags.specs.Places.{parts_in}
use Rattle.record_tests.specs.RecordTested.{state_read, Meant}

-- ---- the fields as the code takes them: w·n numbers by the parameters read

module _ {rec : List ℕ} {p : Parameters} (y : Meant rec p) where
  pub cells_are : p.w * p.n ≡ cells (state_read rec)
  cells_are = ap (λ (p : Parameters). p.w * p.n) y.parameters

  -- the numbers of tag t are those of a field of the state, and so is their test
  module _ (z : Size) (t : ℕ) {size : Size} {count : ℕ} {value : List ℕ} {f : List ℤ} (e : (value ≡ value_of t (parts_in rec)) × (size ≡ z) × (count ≡ p.w * p.n)) (h : f ≡ numbers_by z (cells (state_read rec)) (value_of t (parts_in rec))) where
    pub own-numbers : numbers_by size count value ≡ f
    own-numbers = (λ i. numbers_by (e.1 i) ((e.2 ∙ cells_are) i) (e.0 i)) ∙ sym h

    pub own-test : (field : Field) → value_test Value (taken_of (p.w * p.n) field (numbers_by size count value)) ≡ value_test Value (taken_of (cells (state_read rec)) field f)
    own-test field = λ i. value_test Value (taken_of (cells_are i) field (own-numbers i))

  -- u's edges, then v's
  pub own-edges : let s = state_read rec in still_test p s.barriers West VelocityU s.u ∷ still_test p s.barriers South VelocityV s.v ∷ [] ≡ edge_tests s
  own-edges = let s = state_read rec in edges_are p s.h s.b s.u s.v s.barriers ∙ ap (λ p. edge_tests (state_of p s.h s.b s.u s.v s.barriers)) y.parameters

-- tests that go by barriers go by what they mean at each cell
module _ (o l : List ℕ) (e : (k : ℕ) → get_or o k 0 ≡ get_or l k 0) where
  pub same-still : (p : Parameters) (edge : Edge) (field : Field) (f : List ℤ) → still_test p o edge field f ≡ still_test p l edge field f
  unfolding closed_west closed_south
  same-still p West field f =
      λ i. seeks (λ k. (wall_west (boundary_of p.kind) (k % p.w) || bars_west (e (k / p.w * p.w + k % p.w) i)) && not (eqℤ (get_or f k (pos 0)) (pos 0))) (p.w * p.n) (ClosedEdge field)
  same-still p South field f =
      λ i. seeks (λ k. (wall_south (boundary_of p.kind) (k / p.w) || bars_south (e (k / p.w * p.w + k % p.w) i)) && not (eqℤ (get_or f k (pos 0)) (pos 0))) (p.w * p.n) (ClosedEdge field)

-- test 4 of all bytes of the barriers, or of none where there are none, is that of the barriers
pub bytes-tested : (o l : List ℕ) (m : ℕ) → ((o ≡ l) × (length o ≡ m)) ⊎ ((o ≡ []) × (l ≡ replicate m 0)) → answers (barriers_test o (length o) ∷ []) ≡ answers (barriers_test l m ∷ [])
bytes-tested o l m =
    ⊎_elim
    (λ x. ap₂ (λ o m. answers (barriers_test o m ∷ [])) x.0 x.1)
    (λ x. ap (λ o. answers (barriers_test o (length o) ∷ [])) x.0 ∙ small-inside [] 0 (λ k. zero-le) ∙ sym (small-inside (replicate m 0) m (λ k. subst (λ y. y ≤ 3) (sym (same_at m 0 k)) zero-le)) ∙ ap (λ l. answers (barriers_test l m ∷ [])) (sym x.1))

-- one test that is known to be another, and the tests after it
pub first-refuses : {t u : Test Refusal} {r : Refusal} (k : List (Test Refusal)) → t ≡ u → Err r ≡ answers (t ∷ []) → Err r ≡ answers (u ∷ k)
first-refuses {u = u} k e h = sym (refused_first (u ∷ []) k (sym (h ∙ ap (λ t. answers (t ∷ [])) e)))

pub first-passes : {t u : Test Refusal} {a : Answer} (k : List (Test Refusal)) → t ≡ u → Ok tt ≡ answers (t ∷ []) → a ≡ answers k → a ≡ answers (u ∷ k)
first-passes {u = u} k e h q = q ∙ sym (passed_first (u ∷ []) k (sym (h ∙ ap (λ t. answers (t ∷ [])) e)))

-- where test 2 has passed
pub bytes-passed : (m : ℕ) (parts : List Part) → (Missing parts → ⊥) → answers (bytes_tests m parts tag_table) ≡ Ok tt → BytesOf m parts
bytes-passed m parts full e = (bytes-iff m parts full).0 (each-passed (bytes_tests m parts tag_table) e)

-- ---- destinations that are tested alike where the grid is known

module _ (s : State) (t : Timestamp) (parts : List Part) where
  abbrev bytes : List (Test Refusal)
  bytes = bytes_tests (cells s) parts tag_table

  abbrev content : List (Test Refusal)
  content = timed_content_tests s t (fields_of s)

  -- the tests after test 1
  after-grid : (l : List ℕ) → first_found (bytes ++ (room_tests (cells s) l ++ content)) ≡ first_found bytes then (first_found (room_tests (cells s) l) then first_found content)
  after-grid l = found-append bytes (room_tests (cells s) l ++ content) ∙ ap (λ o. first_found bytes then o) (found-append (room_tests (cells s) l) content)

  alike : (r o : List ℕ) → (T (grid_known (parameters_of s)) → first_found (room_tests (cells s) r) ≡ first_found (room_tests (cells s) o)) → record_test s t parts r ≡ record_test s t parts o
  unfolding record_test
  alike r o e = by (grid_known (parameters_of s)) refl
    where
      by : (b : Bool) → grid_known (parameters_of s) ≡ b
          → must b Grid then first_found (bytes ++ (room_tests (cells s) r ++ content)) ≡ must b Grid then first_found (bytes ++ (room_tests (cells s) o ++ content))
      by true q = after-grid r ∙ ap (λ x. first_found bytes then (x then first_found content)) (e (true-T q)) ∙ sym (after-grid o)
      by false q = refl

pub rooms-alike : (rec r t : List ℕ) → ((s : State) → T (grid_known (parameters_of s)) → first_found (room_tests (cells s) r) ≡ first_found (room_tests (cells s) t)) → decode rec r ≡ decode rec t
unfolding decode
rooms-alike rec r t e = by (walked rec)
  where
    by : (w : Walked) → read_by r w ≡ read_by t w
    by (damaged x) = refl
    by (whole parts) = let s = state_in parts in ap (λ o. judged o s (timestamp_in parts)) (alike s (timestamp_in parts) parts r t (e s))

-- ---- all tests, 7 first

module _ (rec rooms : List ℕ) where
  -- a refusal of test 7 stays
  pub examined-damaged : {r : Refusal} → walked rec ≡ damaged r → decode rec rooms ≡ refused r
  unfolding decode
  examined-damaged e = ap (read_by rooms) e

  pub decoded : walked rec ≡ whole (parts_in rec) → decode rec rooms ≡ judged (record_test (state_read rec) (timestamp_in (parts_in rec)) (parts_in rec) rooms) (state_read rec) (timestamp_in (parts_in rec))
  unfolding decode state_read
  decoded e = ap (read_by rooms) e

  pub examined-refused : {r : Refusal} → walked rec ≡ whole (parts_in rec) → Err r ≡ answer_of (record_test (state_read rec) (timestamp_in (parts_in rec)) (parts_in rec) rooms) → decode rec rooms ≡ refused r
  examined-refused {r} w e = decoded w ∙ ap (λ o. judged o (state_read rec) (timestamp_in (parts_in rec))) (refused-some (record_test (state_read rec) (timestamp_in (parts_in rec)) (parts_in rec) rooms) r e)
