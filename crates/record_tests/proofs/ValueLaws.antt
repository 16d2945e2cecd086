-- What the values of a record that passes test 7 mean. Assumes nothing.
use mathlib.Core.Path.{◌≡◌, refl, sym, ap, ap₂, subst, ◌∙◌}
use mathlib.Core.Logic.{◌⊎◌, inl, inr, ⊎_elim}
use mathlib.Core.Bool.{Bool, true, false}
use mathlib.Core.List.{List, [], ◌∷◌}
use Prim.Native.Nat.{ℕ, ◌≤◌, ◌<◌}
use native.Mathlib.Omega.{arith}
use lib.Dec.{T, lit≤}
use lib.IntN.{ℤ}
use lib.ListN.{length, get_or, replicate}
use lib.Seq.{take_all}
use borrow.Author.Tests.{eqb-true}
use Rattle.std.specs.Array.{IsFirstChunk}
use Rattle.std.specs.Int.{w16, w64, from_be_bytes}
use Rattle.model.specs.Grid.{tabulate}
use Rattle.model.specs.State.{State, cells}
use Rattle.model.specs.Record.{Part, has, value_of, unsigned, right_size, state_in}
use Rattle.model.specs.Claims.{BytesOf}
use Rattle.grid.specs.CellFields.{tabulate-get, tabulate-same, same_at}
use Rattle.theorems.specs.TagLaws.{last_required, among-iff}
use Rattle.theorems.specs.Written.{absent-value}
use Rattle.record_bytes.specs.declared.Size.{Size}
use Rattle.record_bytes.specs.declared.Size.TheVariants.{Two, Four}
use Rattle.record_bytes.specs.NumberSizes.{numbers_by}
use Rattle.record_bytes.specs.BigEndian.{two-read, eight-read}
use Rattle.record_tags.specs.Places.{parts_in, IsValue}
use Rattle.record_tests.specs.RecordTested.{state_read}

-- ---- the lengths of tags 1, 2, 3 and 8

module _ {rec value : List ℕ} where
  -- a tag that is required, and its length
  long_of : (t k : ℕ) → t ≤ last_required → (right_size t (length value) ≡ true → length value ≡ k) → IsValue rec t value → length value ≡ k
  long_of t k h e v = ⊎_elim e (λ p. absurd (let l = p.0 in omega arith)) v.sized

  pub seconds-long : IsValue rec 3 value → length value ≡ 8
  seconds-long = long_of 3 8 (lit≤ tt) (eqb-true (length value) 8)

  -- the seconds, and the milliseconds, which may be absent
  pub seconds-read : {chunk : List ℕ} {n : ℕ} → IsValue rec 3 value → IsFirstChunk value chunk 8 → n ≡ from_be_bytes w64 chunk → n ≡ unsigned (value_of 3 (parts_in rec))
  seconds-read v y e =
      let l = seconds-long v in
      e ∙ ap (from_be_bytes w64) (y.same ∙ take_all 8 value (omega arith)) ∙ eight-read value l ∙ ap unsigned v.is

  pub milliseconds-read : {n : ℕ} → IsValue rec 8 value → 2 ≤ length value → n ≡ from_be_bytes w16 (get_or value 0 0 ∷ get_or value 1 0 ∷ []) → n ≡ unsigned (value_of 8 (parts_in rec))
  milliseconds-read v h e = e ∙ two-read value (⊎_elim (eqb-true (length value) 2) (λ p. absurd (let l = ap length p.1 in omega arith)) v.sized) ∙ ap unsigned v.is

  pub no-milliseconds : IsValue rec 8 value → length value < 2 → 0 ≡ unsigned (value_of 8 (parts_in rec))
  no-milliseconds v h = ap unsigned (sym (⊎_elim (λ e. absurd (let l = eqb-true (length value) 2 e in omega arith)) (λ p. p.1) v.sized) ∙ v.is)

-- ---- the fields

module _ (rec : List ℕ) where
  abbrev s : State
  s = state_read rec

  pub h-is : s.h ≡ numbers_by Four (cells s) (value_of 4 (parts_in rec))
  unfolding state_read state_in
  h-is = refl

  pub b-is : s.b ≡ numbers_by Four (cells s) (value_of 5 (parts_in rec))
  unfolding state_read state_in
  b-is = refl

  pub u-is : s.u ≡ numbers_by Two (cells s) (value_of 6 (parts_in rec))
  unfolding state_read state_in
  u-is = refl

  pub v-is : s.v ≡ numbers_by Two (cells s) (value_of 7 (parts_in rec))
  unfolding state_read state_in
  v-is = refl

  pub barriers-are : s.barriers ≡ tabulate (cells s) (λ k. get_or (value_of 9 (parts_in rec)) k 0)
  unfolding state_read state_in
  barriers-are = refl

-- ---- a tag's value, as `value_of` hands it over

module _ {rec value : List ℕ} {t : ℕ} (v : IsValue rec t value) where
  -- its numbers are those of a field of the state
  pub value-numbers : (z : Size) {m : ℕ} {f : List ℤ} → m ≡ cells (state_read rec) → f ≡ numbers_by z (cells (state_read rec)) (value_of t (parts_in rec)) → numbers_by z m value ≡ f
  value-numbers z e h = ap₂ (numbers_by z) e v.is ∙ sym h

-- ---- tag 9: no byte for a cell means 0, and test 2 leaves none over

-- all bytes of the state's barriers, or none where there are none
pub value-bytes : {rec value : List ℕ} {m : ℕ} → IsValue rec 9 value → m ≡ cells (state_read rec) → BytesOf m (parts_in rec)
    → ((value ≡ (state_read rec).barriers) × (length value ≡ cells (state_read rec))) ⊎ ((value ≡ []) × ((state_read rec).barriers ≡ replicate (cells (state_read rec)) 0))
value-bytes {rec} {value} {m} v e b = by (has 9 parts) refl
  where
    parts : List Part
    parts = parts_in rec

    o : List ℕ
    o = value_of 9 parts

    n : ℕ
    n = cells (state_read rec)

    by : (x : Bool) → has 9 parts ≡ x → ((value ≡ (state_read rec).barriers) × (length value ≡ n)) ⊎ ((value ≡ []) × ((state_read rec).barriers ≡ replicate n 0))
    by true q =
        let long : length o ≡ n = b.4 ((among-iff 9 parts).0 (subst T (sym q) tt)) ∙ e in
        inl (v.is ∙ sym (tabulate-get n o 0 long) ∙ sym (barriers-are rec), ap length v.is ∙ long)
    by false q =
        let none = absent-value 9 parts q in
        inr (v.is ∙ none, barriers-are rec ∙ ap (λ l. tabulate n (λ k. get_or l k 0)) none ∙ tabulate-same n 0)

-- so each byte means the state's, and no byte 0
pub value-barriers : {rec value : List ℕ} {m : ℕ} → IsValue rec 9 value → m ≡ cells (state_read rec) → BytesOf m (parts_in rec) → (k : ℕ) → get_or value k 0 ≡ get_or (state_read rec).barriers k 0
value-barriers {rec} v e b k =
    ⊎_elim
    (λ x. ap (λ l. get_or l k 0) x.0)
    (λ x. ap (λ l. get_or l k 0) x.0 ∙ sym (same_at (cells (state_read rec)) 0 k) ∙ ap (λ l. get_or l k 0) (sym x.1))
    (value-bytes v e b)
