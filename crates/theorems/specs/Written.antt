-- What the writer makes of what a record's fields mean: each field has the record's own value, or zeros where the record has none.
-- Assumes nothing.
use Rattle.std.specs.Prelude.{◌≡◌, Bool, true, false, cond, ◌||◌, T, eqb, length, get_or, replicate}
use Rattle.std.proofs.Math.Path.{refl, ap₂}
use Rattle.std.proofs.Common.{sym, ap, subst, ◌∙◌, arith, lit<, lit≤, eqb-true}
use mathlib.Core.List.{List, [], ◌∷◌, map}
use Prim.Native.Nat.{ℕ, zero, suc, ◌*◌, ◌≤◌, ◌<◌}
use mir.Syntax.{w16, w32}
use Rattle.model.specs.Numbers.{any}
use Rattle.model.specs.Grid.{tabulate}
use Rattle.model.specs.State.{cells}
use Rattle.model.specs.Record.{Size, fixed, per_cell, TagRow, tag_table, Part, parts_of, has, value_of, state_in, timestamp_in, bytes_for, own_or_zeros, bytes, unsigned}
use Rattle.model.specs.Claims.{BytesOf, Missing}
use Rattle.grid.specs.CellFields.{tabulate-get, tabulate-same}
use Rattle.theorems.specs.Truth.{T_true}
use Rattle.theorems.specs.NumbersAsBytes.{AllBytes, back-bytes, put-numbers}
use Rattle.theorems.specs.Walks.{Read, AllRead}
use Rattle.theorems.specs.TagLaws.{last_required, there, among-iff}

abbrev pub part : ℕ → List ℕ → Part
part t value = record { tag = t; value = value }

-- ---- the value of a tag

-- where the record has it
pub value_read : (t : ℕ) (ps : List Part) → AllRead ps → T (has t ps) → Read (part t (value_of t ps))
value_read t [] r h = absurd h
value_read t (p ∷ ps) r h = by (eqb p.tag t) refl (value_read t ps r.1) h
  where
    by : (b : Bool) → eqb p.tag t ≡ b → (T (has t ps) → Read (part t (value_of t ps))) → T (b || has t ps) → Read (part t (cond b p.value (value_of t ps)))
    by true e ih h = subst (λ x. Read (part x p.value)) (eqb-true p.tag t e) r.0
    by false e ih h = ih h

-- and where it has none
pub absent-value : (t : ℕ) (ps : List Part) → has t ps ≡ false → value_of t ps ≡ []
absent-value t [] e = refl
absent-value t (p ∷ ps) e = by (eqb p.tag t) (absent-value t ps) e
  where
    by : (b : Bool) → (has t ps ≡ false → value_of t ps ≡ []) → b || has t ps ≡ false → cond b p.value (value_of t ps) ≡ []
    by true ih e = absurd (subst T e tt)
    by false ih e = ih e

pub three : (l : List ℕ) → length l ≡ 3 → get_or l 0 0 ∷ get_or l 1 0 ∷ get_or l 2 0 ∷ [] ≡ l
three [] h = absurd (let z : 0 ≡ 3 = h in omega arith)
three (a ∷ []) h = absurd (let z : 1 ≡ 3 = h in omega arith)
three (a ∷ b ∷ []) h = absurd (let z : 2 ≡ 3 = h in omega arith)
three (a ∷ b ∷ c ∷ []) h = refl
three (a ∷ b ∷ c ∷ d ∷ l) h = absurd (let z : suc (suc (suc (suc (length l)))) ≡ 3 = h in omega arith)

-- ---- the fields

pub all-bytes : (l : List ℕ) → ((k : ℕ) → get_or l k 0 < 256) → AllBytes l
all-bytes [] h = tt
all-bytes (x ∷ l) h = (h 0, all-bytes l (λ k. h (suc k)))

pub byte_at : (l : List ℕ) → AllBytes l → (k : ℕ) → get_or l k 0 < 256
byte_at [] h k = lit< tt
byte_at (x ∷ l) h zero = h.0
byte_at (x ∷ l) h (suc k) = byte_at l h.1 k

module _ (ps : List Part) (none : Missing ps → ⊥) (each : AllRead ps) (long : BytesOf (cells (state_in ps)) ps) where
  abbrev m : ℕ
  m = cells (state_in ps)

  -- a field that must be there
  own : (t : ℕ) (z : Size) {value : List ℕ} → 1 ≤ t → t ≤ last_required → (Read (part t (value_of t ps)) → value ≡ value_of t ps)
      → part t value ≡ own_or_zeros m ps (record { tag = t; size = z; required = true })
  own t z a b h =
      let e = there ps none t a b in
      ap (part t) (h (value_read t ps each e) ∙ sym (ap (λ x. cond x (value_of t ps) (replicate (bytes_for m z) 0)) (T_true (has t ps) e)))

  -- tag 8, of two bytes
  milliseconds : (b : Bool) → has 8 ps ≡ b → bytes 2 (unsigned (value_of 8 ps)) ≡ cond b (value_of 8 ps) (replicate 2 0)
  milliseconds true e =
      let r = value_read 8 ps each (subst T (sym e) tt) in back-bytes 2 (value_of 8 ps) (eqb-true (length (value_of 8 ps)) 2 r.sized) r.plain
  milliseconds false e = ap (λ v. bytes 2 (unsigned v)) (absent-value 8 ps e)

  -- tag 9, of a byte for each cell
  barred : (b : Bool) → has 9 ps ≡ b → tabulate m (λ k. get_or (value_of 9 ps) k 0) ≡ cond b (value_of 9 ps) (replicate (1 * m) 0)
  barred true e = tabulate-get m (value_of 9 ps) 0 (long.4 ((among-iff 9 ps).0 (subst T (sym e) tt)))
  barred false e = ap (λ v. tabulate m (λ k. get_or v k 0)) (absent-value 9 ps e) ∙ tabulate-same m 0 ∙ ap (λ m. replicate m 0) (once m)
    where
      once : (m : ℕ) → m ≡ 1 * m
      once m = omega arith

  pub fields_back : parts_of (state_in ps) (timestamp_in ps) ≡ map (own_or_zeros m ps) tag_table
  unfolding parts_of state_in timestamp_in
  fields_back =
      let v : ℕ → List ℕ = λ t. value_of t ps in
      ap₂ ◌∷◌ (own 1 (fixed 3) (lit≤ tt) (lit≤ tt) (λ r. three (v 1) (eqb-true (length (v 1)) 3 r.sized)))
      (ap₂ ◌∷◌ (own 2 (fixed 12) (lit≤ tt) (lit≤ tt) (λ r. put-numbers 4 w32 refl 3 (v 2) (eqb-true (length (v 2)) 12 r.sized) r.plain))
      (ap₂ ◌∷◌ (own 3 (fixed 8) (lit≤ tt) (lit≤ tt) (λ r. back-bytes 8 (v 3) (eqb-true (length (v 3)) 8 r.sized) r.plain))
      (ap₂ ◌∷◌ (own 4 (per_cell 4) (lit≤ tt) (lit≤ tt) (λ r. put-numbers 4 w32 refl m (v 4) long.0 r.plain))
      (ap₂ ◌∷◌ (own 5 (per_cell 4) (lit≤ tt) (lit≤ tt) (λ r. put-numbers 4 w32 refl m (v 5) long.1 r.plain))
      (ap₂ ◌∷◌ (own 6 (per_cell 2) (lit≤ tt) (lit≤ tt) (λ r. put-numbers 2 w16 refl m (v 6) long.2 r.plain))
      (ap₂ ◌∷◌ (own 7 (per_cell 2) (lit≤ tt) (lit≤ tt) (λ r. put-numbers 2 w16 refl m (v 7) long.3 r.plain))
      (ap₂ (λ x y. part 8 x ∷ part 9 y ∷ []) (milliseconds (has 8 ps) refl) (barred (has 9 ps) refl))))))))

  -- so a value that the record has is the one that the writer makes
  value-own : (t : ℕ) (rows : List TagRow) → T (has t ps) → T (any (λ row. eqb row.tag t) rows) → value_of t (map (own_or_zeros m ps) rows) ≡ value_of t ps
  value-own t [] h a = absurd a
  value-own t (row ∷ rows) h a = by (eqb row.tag t) refl (value-own t rows h) a
    where
      zeros : List ℕ
      zeros = replicate (bytes_for m row.size) 0

      by : (b : Bool) → eqb row.tag t ≡ b → (T (any (λ row. eqb row.tag t) rows) → value_of t (map (own_or_zeros m ps) rows) ≡ value_of t ps) → T (b || any (λ row. eqb row.tag t) rows)
          → cond b (cond (has row.tag ps) (value_of row.tag ps) zeros) (value_of t (map (own_or_zeros m ps) rows)) ≡ value_of t ps
      by true e ih a = ap (λ t. cond (has t ps) (value_of t ps) zeros) (eqb-true row.tag t e) ∙ ap (λ x. cond x (value_of t ps) zeros) (T_true (has t ps) h)
      by false e ih a = ih a

  pub as_written : (t : ℕ) → T (has t ps) → T (any (λ row. eqb row.tag t) tag_table) → value_of t ps ≡ value_of t (parts_of (state_in ps) (timestamp_in ps))
  as_written t h a = sym (ap (value_of t) fields_back ∙ value-own t tag_table h a)
