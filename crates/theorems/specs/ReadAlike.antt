-- Records whose fields mean the same are read alike. Assumes nothing.
use Rattle.std.specs.Prelude.{◌≡◌, refl, not, ◌||◌, List, [], ◌∷◌, ◌++◌, T, eqb, length, get_or}
use Rattle.std.proofs.Common.{sym, ap₂, subst, ◌∙◌, arith, lit≤, length-append}
use Rattle.std.proofs.Math.Path.{ap}
use Prim.Native.Nat.{ℕ, ◌*◌, ◌≤◌, zero-le}
use Rattle.model.specs.Grid.{tabulate}
use Rattle.model.specs.State.{Fields, state_of, parameters_of, cells}
use Rattle.model.specs.Tests.{asks, first_found}
use Rattle.model.specs.Refusals.{fields_of, grid_test, room_tests, timed_content_tests}
use Rattle.model.specs.Record.{unsigned, per_cell, tag_table, Part, joined, has, value_of, whole, unless, walked, state_in, timestamp_in, bytes_test, bytes_tests, record_test, judged, read_by, decode}
use Rattle.model.specs.Answers.{told_read}
use Rattle.model.specs.Promises.{read_answer, rooms_in, read_into, read_of, ReadPromise}
use Rattle.model.specs.Claims.{Among, Missing, WholeIn}
use Rattle.model.specs.declared.Timestamp.{Timestamp}
use Rattle.model.specs.declared.Refusal.TheVariants.{Lengths}
use Rattle.model.specs.Answers.{ReadAnswer}
use Rattle.theorems.specs.Walks.{AllFine, walks}
use Rattle.theorems.specs.TagLaws.{last_required, among-iff, none-missing}
use Rattle.theorems.specs.Damage.{whole-iff}

-- ---- a record made of fields

-- each field has a byte at least
count : (ps : List Part) → length ps ≤ length (joined ps)
count [] = zero-le
count (p ∷ ps) = let n = count ps in simp length-append (omega arith)

walked-joined : (ps : List Part) → AllFine [] ps → (Missing ps → ⊥) → walked (joined ps) ≡ whole ps
unfolding walked
walked-joined ps f n = walks ps (joined ps) [] 0 (length (joined ps)) [] refl refl f (count ps) ∙ ap (λ o. unless o (whole ps)) (none-missing (joined ps) ps n)

-- ---- two lists of fields that mean the same

-- what a record must have is the same; what it may lack need only mean the same, and pass test 2 alike
pub record Alike (a b : List Part) : Type 0 where
  pub there : (t : ℕ) → t ≤ last_required → has t b ≡ has t a
  pub values : (t : ℕ) → t ≤ last_required → value_of t b ≡ value_of t a
  pub time : unsigned (value_of 8 b) ≡ unsigned (value_of 8 a)
  pub bars : (k : ℕ) → get_or (value_of 9 b) k 0 ≡ get_or (value_of 9 a) k 0
  pub right : (not (has 9 b) || eqb (length (value_of 9 b)) (1 * cells (state_in a))) ≡ (not (has 9 a) || eqb (length (value_of 9 a)) (1 * cells (state_in a)))

-- as fields that have the same values do
pub all_alike : (a b : List Part) → ((t : ℕ) → has t b ≡ has t a) → ((t : ℕ) → value_of t b ≡ value_of t a) → Alike a b
all_alike a b h v = record {
  there = λ t l. h t;
  values = λ t l. v t;
  time = ap unsigned (v 8);
  bars = λ k. ap (λ l. get_or l k 0) (v 9);
  right = ap₂ (λ x l. not x || eqb (length l) (1 * cells (state_in a))) (h 9) (v 9);
}

module _ (a b : List Part) (alike : Alike a b) where
  abbrev v : (t : ℕ) → t ≤ last_required → value_of t b ≡ value_of t a
  v = alike.values

  same-state : state_in b ≡ state_in a
  unfolding state_in
  same-state =
      rw (v 1 (lit≤ tt), v 2 (lit≤ tt), v 4 (lit≤ tt), v 5 (lit≤ tt), v 6 (lit≤ tt), v 7 (lit≤ tt))
      (ap (λ (f : ℕ → ℕ). let s = state_in a in state_of (parameters_of s) s.h s.b s.u s.v (tabulate (cells s) f)) (λ i k. alike.bars k i))

  same-timestamp : timestamp_in b ≡ timestamp_in a
  unfolding timestamp_in
  same-timestamp = λ i. record { seconds = unsigned (v 3 (lit≤ tt) i); milliseconds = alike.time i }

  -- test 2, of tags 4 to 7 and of tag 9
  same_bytes : let m = cells (state_in a) in bytes_tests m b tag_table ≡ bytes_tests m a tag_table
  same_bytes =
      let asked : (t k : ℕ) → t ≤ last_required → bytes_test (cells (state_in a)) (has t b) (value_of t b) (per_cell k) ≡ bytes_test (cells (state_in a)) (has t a) (value_of t a) (per_cell k)
      = λ t k l. ap₂ (λ x y. bytes_test (cells (state_in a)) x y (per_cell k)) (alike.there t l) (v t l) in
      ap₂ ◌++◌ (asked 4 4 (lit≤ tt))
      (ap₂ ◌++◌ (asked 5 4 (lit≤ tt)) (ap₂ ◌++◌ (asked 6 2 (lit≤ tt)) (ap₂ ◌++◌ (asked 7 2 (lit≤ tt)) (ap (λ x. asks x Lengths ∷ []) alike.right))))

  same_test : (t : Timestamp) (rooms : List ℕ) → record_test (state_in a) t b rooms ≡ record_test (state_in a) t a rooms
  unfolding record_test
  same_test t rooms =
      let s = state_in a in
      ap (λ l. first_found (grid_test (parameters_of s) ∷ (l ++ (room_tests (cells s) rooms ++ timed_content_tests s t (fields_of s))))) same_bytes

  same_read : (rooms : List ℕ) → read_by rooms (whole b) ≡ read_by rooms (whole a)
  same_read rooms =
      ap₂ (λ s t. judged (record_test s t b rooms) s t) same-state same-timestamp
      ∙ ap (λ o. judged o (state_in a) (timestamp_in a)) (same_test (timestamp_in a) rooms)

-- ---- a record that passes 7, and the record of other fields

pub read_alike : (rec : List ℕ) (parts other : List Part) → WholeIn rec parts → AllFine [] other → Alike parts other
    → (rooms : List ℕ) → decode (joined other) rooms ≡ decode rec rooms
unfolding decode
read_alike rec parts other w f alike rooms =
    let among : (t : ℕ) → t ≤ last_required → Among t parts → Among t other = λ t l x. (among-iff t other).0 (subst T (sym (alike.there t l)) ((among-iff t parts).1 x)) in
    ap (read_by rooms) (walked-joined other f (λ m. w.1 (m.0, m.1, m.2, λ x. m.3 (among m.0 m.2 x))))
    ∙ same_read parts other alike rooms
    ∙ ap (read_by rooms) (sym ((whole-iff rec parts).1 w))

-- so the reader's promise of the one is that of the other
pub promise-alike : (rec other : List ℕ) → ((rooms : List ℕ) → decode other rooms ≡ decode rec rooms)
    → (d d' : Fields) (answer : ReadAnswer) → ReadPromise rec d answer d' → ReadPromise other d answer d'
unfolding read_of
promise-alike rec other same d d' answer p =
    let e : read_of rec d ≡ read_of other d = sym (same (rooms_in d)) in
    record { answers = p.answers ∙ ap read_answer e; tells = p.tells ∙ ap (λ x. told_read (read_answer x)) e; fills = p.fills ∙ ap (λ x. read_into x d) e }
