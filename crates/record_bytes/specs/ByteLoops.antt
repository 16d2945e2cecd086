-- Laws of fields of numbers in bytes, number by number. Assumes nothing.
use Rattle.std.specs.Prelude.{◌≡◌, refl, List, [], ◌∷◌, ◌++◌, ℕ, suc, ◌+◌, ◌*◌, ◌^◌, ◌≤◌, ◌<◌, ◌-◌, min, ℤ, pos, length, take, drop, get_or, replicate}
use Rattle.std.proofs.Common.{sym, ap, ◌∙◌, append_assoc, append-nil, suc-mul, mul_comm, mul-le-mul_right, le_trans, add-one, arith, take-suc, take-append-drop, drop-cons, ext_get_or, SFits, to_z, of_z}
use Rattle.std.proofs.Math.Facts.{to_z-of_z, sfits_widen}
use Rattle.std.proofs.lemmas.Grind.{elements}
use Rattle.std.proofs.lemmas.List.{get_or_past}
use Rattle.std.specs.Int.{w16, w32, w64}
use mir.Val.{bits}
use Rattle.model.specs.Grid.{tabulate}
use Rattle.model.specs.Record.{each_by}
use Rattle.grid.specs.CellFields.{length-tabulate, get_d_tabulate}
use Rattle.theorems.specs.NumbersAsBytes.{length-each}
use Rattle.record_bytes.specs.declared.Size.{Size}
use Rattle.record_bytes.specs.declared.Size.TheVariants.{Two, Four}
use Rattle.record_bytes.specs.NumberSizes.{size_of, width_of, signed_by, bytes_by, numbers_by, value_by}

wide_of : (z : Size) → 2 ^ bits (width_of z) ≡ 256 ^ size_of z
wide_of Two = refl
wide_of Four = refl

each_append : (g : ℤ → List ℕ) (a b : List ℤ) → each_by g (a ++ b) ≡ each_by g a ++ each_by g b
each_append g [] b = refl
each_append g (x ∷ a) b = ap (λ l. g x ++ l) (each_append g a b) ∙ sym (append_assoc (g x) (each_by g a) (each_by g b))

pub length-value : (z : Size) (f : List ℤ) → length (value_by z f) ≡ length f * size_of z
length-value z f = length-each (size_of z) (width_of z) (wide_of z) f ∙ mul_comm (size_of z) (length f)

-- number i of m ends within them
pub number-within : {i m : ℕ} (z : ℕ) → i < m → i * z + z ≤ m * z
number-within {i} {m} z h = le_trans (eq (suc-mul i z)) (mul-le-mul_right z h)
  where
    eq : suc i * z ≡ i * z + z → i * z + z ≤ suc i * z
    eq e = omega arith

-- the numbers before number i, itself, and those after it
module _ (z : Size) (f : List ℤ) (i : ℕ) (h : i < length f) where
  pub value_more : value_by z (take (i + 1) f) ≡ value_by z (take i f) ++ bytes_by z (get_or f i (pos 0))
  value_more =
      rw (add-one i, take-suc f i (pos 0) h)
      (each_append (bytes_by z) (take i f) (get_or f i (pos 0) ∷ []) ∙ ap (λ r. value_by z (take i f) ++ r) (append-nil (bytes_by z (get_or f i (pos 0)))))

  pub value-parts : value_by z f ≡ value_by z (take i f) ++ (bytes_by z (get_or f i (pos 0)) ++ value_by z (drop (suc i) f))
  value-parts =
      ap (value_by z) (sym (take-append-drop i f) ∙ ap (λ l. take i f ++ l) (drop-cons f i (pos 0) h))
      ∙ each_append (bytes_by z) (take i f) (get_or f i (pos 0) ∷ drop (suc i) f)

-- as the machine holds it, a number that fits its bytes is the same
pub number-held : (z : Size) {x : ℤ} → SFits (width_of z) x → to_z w64 (of_z w64 x) ≡ x
number-held Two h = to_z-of_z {w = w64} (sfits_widen {w = w16} tt h)
number-held Four h = to_z-of_z {w = w64} (sfits_widen {w = w32} tt h)

-- the number that a field of them has at i
pub number_is : (z : Size) (m : ℕ) (value : List ℕ) (i : ℕ) → i < m → get_or (numbers_by z m value) i (pos 0) ≡ signed_by z (take (size_of z) (drop (i * size_of z) value))
number_is z m value i h = get_d_tabulate m (λ k. signed_by z (take (size_of z) (drop (k * size_of z) value))) i (pos 0) h

pub numbers-long : (z : Size) (m : ℕ) (value : List ℕ) → length (numbers_by z m value) ≡ m
numbers-long z m value = length-tabulate m (λ k. signed_by z (take (size_of z) (drop (k * size_of z) value)))

-- the bytes of a value, and 0 past them
pub given_bytes : (value : List ℕ) (m g : ℕ) → g ≡ min (length value) m → tabulate m (λ k. get_or value k 0) ≡ take g value ++ replicate (m - g) 0
given_bytes value m g e =
    let rest : List ℕ = replicate (m - g) 0 in
    let long : length (take g value ++ rest) ≡ m = grind (arith, elements) in
    ext_get_or 0 (tabulate m (λ k. get_or value k 0)) (take g value ++ rest) (length-tabulate m (λ k. get_or value k 0) ∙ sym long)
    (λ k h. let h' : k < m = rw (length-tabulate m (λ k. get_or value k 0)) at h in get_d_tabulate m (λ k. get_or value k 0) k 0 h' ∙ one k h')
  where
    one : (k : ℕ) → k < m → get_or value k 0 ≡ get_or (take g value ++ replicate (m - g) 0) k 0
    one k h = grind (arith, elements, get_or_past value k 0)
