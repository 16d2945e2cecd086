-- Closed edges, west or south, and a loop that puts 0 on those which barriers close. Assumes nothing.
use Rattle.std.specs.Prelude.{◌≡◌, refl, Bool, false, cond, List, ◌++◌, ℕ, ◌+◌, ◌-◌, ◌*◌, ◌/◌, ◌%◌, ◌≤◌, ◌<◌, ℤ, pos, length, get_or, take, drop}
use Rattle.std.proofs.Common.{sym, ap, ap₂, subst, ◌∙◌, mod-lt, div-add-mod', arith, length-drop, length-append, length-take-le, take-append-drop, get_or-take, get_or-drop, ext_get_or}
use Rattle.std.proofs.Math.ListN.{get_or-eq_default}
use Rattle.model.specs.Grid.{by_cell, filled}
use Rattle.model.specs.State.{State, boundary_of, wall_west, wall_south, bars_west, bars_south, closed_west, closed_south}
use Rattle.grid.specs.Parts.{part}
use Rattle.grid.specs.CellFields.{get_or-by_cell, length-by_cell, row_lt, take-filled, drop-filled}
use Rattle.grid.specs.declared.Edge.{Edge}
use Rattle.grid.specs.declared.Edge.TheVariants.{West, South}

-- whether a byte of barriers closes this edge
abbrev pub bars : Edge → ℕ → Bool
bars West x = bars_west x
bars South x = bars_south x

-- whether a wall closes this edge of the cells at a place: of a column the west edges, of a row the south edges
abbrev pub wall_on : Edge → ℕ → ℕ → Bool
wall_on West kind i = wall_west (boundary_of kind) i
wall_on South kind j = wall_south (boundary_of kind) j

-- whether this edge of cell (i, j) is closed
abbrev pub closed_at : State → Edge → ℕ → ℕ → Bool
closed_at s West i j = closed_west s i j
closed_at s South i j = closed_south s i j

none : (edge : Edge) → bars edge 0 ≡ false
none West = refl
none South = refl

-- d is d₀, but for 0 at the places from a on whose edge is closed
pub record Cleared (edge : Edge) (barriers : List ℕ) (a : ℕ) (d₀ d : List ℤ) : Type 0 where
  pub long : length d ≡ length d₀
  pub before : (x : ℕ) → x < a → get_or d x (pos 0) ≡ get_or d₀ x (pos 0)
  pub each : (x : ℕ) → get_or d (a + x) (pos 0) ≡ cond (bars edge (get_or barriers x 0)) (pos 0) (get_or d₀ (a + x) (pos 0))

-- a loop that does so, and has passed k cells
pub record Clearing (edge : Edge) (barriers : List ℕ) (a : ℕ) (d₀ : List ℤ) (k : ℕ) (d : List ℤ) : Type 0 where
  pub long : length d ≡ length d₀
  pub before : (x : ℕ) → x < a → get_or d x (pos 0) ≡ get_or d₀ x (pos 0)
  pub passed : (x : ℕ) → x < k → get_or d (a + x) (pos 0) ≡ cond (bars edge (get_or barriers x 0)) (pos 0) (get_or d₀ (a + x) (pos 0))
  pub ahead : (x : ℕ) → k ≤ x → get_or d (a + x) (pos 0) ≡ get_or d₀ (a + x) (pos 0)

-- ---- a part of a list, and a list that is changed in it alone

length_part : (a m : ℕ) (d : List ℤ) → a + m ≤ length d → length (part a m d) ≡ m
length_part a m d h = length-take-le m (drop a d) (omega (arith, length-drop a d))

get_d_part : (a m : ℕ) (d : List ℤ) (x : ℕ) → x < m → get_or (part a m d) x (pos 0) ≡ get_or d (a + x) (pos 0)
get_d_part a m d x h = get_or-take m (drop a d) x (pos 0) h ∙ get_or-drop a d x (pos 0)

-- d is d₀, but for the places from a on that are below e
record Elsewhere (a e : ℕ) (d₀ d : List ℤ) : Type 0 where
  long : length d ≡ length d₀
  before : (x : ℕ) → x < a → get_or d x (pos 0) ≡ get_or d₀ x (pos 0)
  behind : (x : ℕ) → e ≤ x → get_or d x (pos 0) ≡ get_or d₀ x (pos 0)

kept-rest : {a e : ℕ} {d₀ d : List ℤ} → Elsewhere a e d₀ d → (x : ℕ) → e ≤ x → drop x d ≡ drop x d₀
kept-rest {d₀ = d₀} {d} h x l =
    ext_get_or (pos 0) (drop x d) (drop x d₀) (length-drop x d ∙ ap (λ k. k - x) h.long ∙ sym (length-drop x d₀))
    (λ y q. get_or-drop x d y (pos 0) ∙ h.behind (x + y) (omega arith) ∙ sym (get_or-drop x d₀ y (pos 0)))

-- ---- what that makes of a field

module _ {edge : Edge} {barriers : List ℕ} {a : ℕ} {d₀ d : List ℤ} (h : Cleared edge barriers a d₀ d) where
  -- nothing past m cells is changed, where there are m bytes
  cleared-elsewhere : {m : ℕ} → length barriers ≤ m → Elsewhere a (a + m) d₀ d
  cleared-elsewhere {m} p = record { long = h.long; before = h.before; behind = λ x l. far x (x - a) (omega arith) (omega arith) }
    where
      far : (x y : ℕ) → x ≡ a + y → length barriers ≤ y → get_or d x (pos 0) ≡ get_or d₀ x (pos 0)
      far x y e l =
          subst (λ x. get_or d x (pos 0) ≡ get_or d₀ x (pos 0)) (sym e)
          (h.each y ∙ ap (λ b. cond b (pos 0) (get_or d₀ (a + y) (pos 0))) (ap (bars edge) (get_or-eq_default barriers 0 l) ∙ none edge))

  -- a field of numbers g becomes one of numbers f, which are g's but for 0 at closed edges
  cleared-part : (w n : ℕ) (f g : ℕ → ℕ → ℤ) → 0 < w → a + w * n ≤ length d₀ → part a (w * n) d₀ ≡ by_cell w n g
      → ((i j : ℕ) → i < w → j < n → f i j ≡ cond (bars edge (get_or barriers (j * w + i) 0)) (pos 0) (g i j))
      → part a (w * n) d ≡ by_cell w n f
  cleared-part w n f g z r e same =
      let m = w * n in
      let whole : length (part a m d) ≡ m = length_part a m d (omega (arith, h.long)) in
      ext_get_or (pos 0) (part a m d) (by_cell w n f) (whole ∙ sym (length-by_cell w n f))
      (λ k l.
      let p : k < m = omega (arith, whole) in
      let old : get_or d₀ (a + k) (pos 0) ≡ g (k % w) (k / w) = sym (get_d_part a m d₀ k p) ∙ ap (λ l. get_or l k (pos 0)) e ∙ get_or-by_cell w n g k p in
      let index : k / w * w + k % w ≡ k = div-add-mod' k w in
      get_d_part a m d k p
      ∙ h.each k
      ∙ ap (cond (bars edge (get_or barriers k 0)) (pos 0)) old
      ∙ ap (λ k'. cond (bars edge (get_or barriers k' 0)) (pos 0) (g (k % w) (k / w))) (sym index)
      ∙ sym (same (k % w) (k / w) (mod-lt k z) (row_lt z p))
      ∙ sym (get_or-by_cell w n f k p))

-- the same of a field at the front of a slice, and what is past it stays
pub cleared-filled : {edge : Edge} {barriers : List ℕ} {d₀ d : List ℤ} → Cleared edge barriers 0 d₀ d → (w n : ℕ) (f g : ℕ → ℕ → ℤ) (e : List ℤ)
    → 0 < w → length barriers ≤ w * n → w * n ≤ length e → d₀ ≡ filled (w * n) (by_cell w n g) e
    → ((i j : ℕ) → i < w → j < n → f i j ≡ cond (bars edge (get_or barriers (j * w + i) 0)) (pos 0) (g i j))
    → d ≡ filled (w * n) (by_cell w n f) e
cleared-filled {edge} {barriers} {d₀} {d} h w n f g e z few room fills same =
    let m = w * n in
    let l : length (by_cell w n g) ≡ m = length-by_cell w n g in
    let old : part 0 m d₀ ≡ by_cell w n g = ap (take m) fills ∙ take-filled m (by_cell w n g) e l in
    let long : length d₀ ≡ length e = ap length fills ∙ length-append (by_cell w n g) (drop m e) ∙ ap₂ ◌+◌ l (length-drop m e) ∙ rejoined m (length e) room in
    let new : take m d ≡ by_cell w n f = cleared-part h w n f g z (omega arith) old same in
    let rest : drop m d ≡ drop m e = kept-rest (cleared-elsewhere h few) m (omega arith) ∙ ap (drop m) fills ∙ drop-filled m (by_cell w n g) e l in
    sym (take-append-drop m d) ∙ ap₂ ◌++◌ new rest
  where
    rejoined : (m k : ℕ) → m ≤ k → m + (k - m) ≡ k
    rejoined m k p = omega arith
