-- A loop that writes the elements of a list, one a turn, from a place of a lent slice on: at place 0 it fills a field. Assumes nothing.
use Rattle.std.specs.Prelude.{◌≡◌, refl, List, ◌++◌, ℕ, ◌+◌, ◌*◌, ◌≤◌, ◌<◌, length, drop, get_or, set}
use Rattle.std.proofs.Common.{sym, ap, subst, ◌∙◌, append-nil, zero-le, le_antisymm, zero-add, mul_comm, mul-le-mul_right, add-one, arith, length-set}
use Rattle.std.proofs.Math.Seq.{paste, paste-suc, take-length, drop-length}
use Rattle.model.specs.Grid.{by_cell, filled}
use Rattle.grid.specs.Cells.{cell-lt, row-end, by_index}
use Rattle.grid.specs.CellFields.{length-by_cell, any-by_cell}
use Rattle.grid.specs.Parts.{replaced}

module _ {A : Type 0} where
  -- d is d₀ with the first k elements of l from place a on
  pub record Writing (a : ℕ) (l d₀ : List A) (k : ℕ) (d : List A) : Type 0 where
    pub so_far : k ≤ length l
    pub holds : d ≡ paste d₀ a l k
    pub long : length d ≡ length d₀

  module _ {a : ℕ} {l d₀ : List A} where
    pub writing_more : {k : ℕ} {d : List A} {v : A} (z : A) → Writing a l d₀ k d → k < length l → a + length l ≤ length d₀ → v ≡ get_or l k z → Writing a l d₀ (k + 1) (set d (a + k) v)
    writing_more {k} {d} {v} z p h r e =
        record {
          so_far = omega arith;
          holds = rw (e, p.holds, add-one) (paste-suc d₀ a l k z (omega arith) h);
          long = length-set d (a + k) v ∙ p.long;
        }

    pub writing-done : {k : ℕ} {d : List A} → Writing a l d₀ k d → length l ≤ k → d ≡ replaced a l d₀
    unfolding replaced
    writing-done {k} {d} p h = p.holds ∙ rw (le_antisymm p.so_far h, take-length)

    pub writing-at : {k m : ℕ} {d : List A} → Writing a l d₀ k d → k ≡ m → Writing a l d₀ m d
    writing-at {d = d} p e = subst (λ (k : ℕ). Writing a l d₀ k d) e p

  -- a lent slice filled from its front
  pub filling-more : {l d₀ : List A} {k : ℕ} {d : List A} {v : A} (z : A) → Writing 0 l d₀ k d → k < length l → length l ≤ length d₀ → v ≡ get_or l k z → Writing 0 l d₀ (k + 1) (set d k v)
  filling-more {l} {d₀} {k} {d} {v} z p h r e = subst (λ (x : ℕ). Writing 0 l d₀ (k + 1) (set d x v)) (zero-add k) (writing_more z p h (omega arith) e)

  pub filling-done : {l d₀ : List A} {k m : ℕ} {d : List A} → Writing 0 l d₀ k d → length l ≡ m → m ≤ k → d ≡ filled m l d₀
  unfolding replaced
  filling-done {l} {d₀} {k} {m} p e h = writing-done p (omega arith) ∙ rw (zero-add, e)

  -- m elements in a slice of m
  pub filled_whole : (m : ℕ) (l d : List A) → length d ≡ m → filled m l d ≡ l
  filled_whole m l d r = ap (λ k. l ++ drop k d) (sym r) ∙ ap (λ x. l ++ x) (drop-length d) ∙ append-nil l

-- ---- cell by cell, with no division: a loop over rows j, and in it one over columns i

module _ {A : Type 0} (w n : ℕ) (g : ℕ → ℕ → A) where
  abbrev pub field : List A
  field = by_cell w n g

  cell-value : {i j : ℕ} (z : A) → i < w → j < n → get_or field (j * w + i) z ≡ g i j
  cell-value {i} {j} z p q = any-by_cell w n g (j * w + i) z (cell-lt p q) ∙ by_index g j p

  cell_in : {i j : ℕ} → i < w → j < n → j * w + i < length field
  cell_in {i} {j} p q = subst (λ (x : ℕ). j * w + i < x) (sym (length-by_cell w n g)) (cell-lt p q)

  -- the inner loop, which finds d₀ and has written i cells of row j: it goes on from whatever list e the rows before were written over
  pub record RowWriting (a j : ℕ) (d₀ : List A) (i : ℕ) (d : List A) : Type 0 where
    pub so_far : i ≤ w
    pub long : length d ≡ length d₀
    pub over : (e : List A) → a + w * n ≤ length e → Writing a field e (j * w) d₀ → Writing a field e (j * w + i) d

  pub row-none : {a : ℕ} (j : ℕ) {d₀ : List A} → RowWriting a j d₀ 0 d₀
  row-none j = record { so_far = zero-le; long = refl; over = λ e r h. writing-at h (omega arith) }

  pub row_more : {a i j : ℕ} {d₀ d : List A} {v : A} → RowWriting a j d₀ i d → i < w → j < n → v ≡ g i j → RowWriting a j d₀ (i + 1) (set d (a + (j * w + i)) v)
  row_more {a} {i} {j} {d₀} {d} {v} h p q e =
      record {
        so_far = omega arith;
        long = length-set d (a + (j * w + i)) v ∙ h.long;
        over = λ l r o. writing-at (writing_more v (h.over l r o) (cell_in p q) (rw (length-by_cell w n g) r) (e ∙ sym (cell-value v p q))) (omega arith);
      }

  -- the same where a field is filled from its front
  pub row-filled : {i j : ℕ} {d₀ d : List A} {v : A} → RowWriting 0 j d₀ i d → i < w → j < n → v ≡ g i j → RowWriting 0 j d₀ (i + 1) (set d (j * w + i) v)
  row-filled {i} {j} {d₀} {d} {v} h p q e = subst (λ (x : ℕ). RowWriting 0 j d₀ (i + 1) (set d x v)) (zero-add (j * w + i)) (row_more h p q e)

  -- all columns have been written
  pub row-whole : {a i j : ℕ} {d₀ d : List A} → RowWriting a j d₀ i d → w ≤ i → RowWriting a j d₀ w d
  row-whole {a} {i} {j} {d₀} {d} h l = subst (λ (i : ℕ). RowWriting a j d₀ i d) (le_antisymm h.so_far l) h

  pub row_done : {a i : ℕ} (j : ℕ) {e d₀ d : List A} → RowWriting a j d₀ i d → w ≤ i → a + w * n ≤ length e → Writing a field e (j * w) d₀ → Writing a field e ((j + 1) * w) d
  row_done j {e = e} h l r o = writing-at (h.over e r o) (row-end j (le_antisymm h.so_far l))

  pub rows-filled : {j : ℕ} {e d : List A} → Writing 0 field e (j * w) d → n ≤ j → d ≡ filled (w * n) field e
  rows-filled {j} h l = filling-done h (length-by_cell w n g) (rw (mul_comm w n) (mul-le-mul_right w l))

  -- ... of which the slice has no other places
  pub field-filled : {j : ℕ} {e d : List A} → Writing 0 field e (j * w) d → n ≤ j → length e ≡ w * n → d ≡ field
  field-filled {e = e} h l r = rows-filled h l ∙ filled_whole (w * n) field e r
