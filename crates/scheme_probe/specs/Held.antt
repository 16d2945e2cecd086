-- Numbers that a double holds whole, and the doubles that stand in the code. Assumes nothing.
use Rattle.std.specs.Prelude.{◌≡◌, refl, List, [], ◌∷◌, ℕ, ◌^◌, ◌<◌, ◌≤◌, T, ℤ, pos, negsuc, nat_abs, length, get_or}
use Rattle.std.proofs.Common.{sym, subst, le_trans, le→leb, lt→ltb}
use Rattle.std.specs.Int.Count.{count_trailing_zeros}
use Rattle.std.specs.Float.{binary64}
use Rattle.std.specs.Float.Ieee.{in_float, of_bits, of_fields, odd, of_int, round, size, span, climb, units}
use Rattle.std.specs.Int.{w64}
use Rattle.model.specs.Numbers.{Limits, Within, bernoulli_scale}
use Rattle.model.specs.State.{FieldWithin}
use Rattle.model.specs.Doubles.{double}
use Rattle.integers.specs.Ring.{var}
use Rattle.integers.specs.Bounds.{Abs, ∎, ◌◂◌, held, exact}
use Rattle.scheme.specs.Ready.{reads}

-- ---- in fields

-- a field has such a number at index k, and at each of m
pub record HoldsAt (f : List ℤ) (k : ℕ) : Type 0 where
  pub inside : k < length f
  pub small : nat_abs (get_or f k (pos 0)) ≤ 2 ^ 53

abbrev pub Holds : ℕ → List ℤ → Type 0
Holds m f = (k : ℕ) → k < m → HoldsAt f k

-- numbers within limits that are small enough
pub holds : {l : Limits} {m : ℕ} {f : List ℤ} (most : ℕ) → ((x : ℤ) → Within l x → Abs x most) → most ≤ 2 ^ 53 → FieldWithin l m f → Holds m f
holds {f = f} most size h p k q = record { inside = (reads p q).inside; small = le_trans (size (get_or f k (pos 0)) (p.each k q)).abs h }

-- ---- as the machine holds them, and converts them

in-float : (z : ℤ) → nat_abs z ≤ 2 ^ 53 → T (in_float binary64 z)
unfolding in_float
in-float (pos n) h = le→leb n (2 ^ 53) h
in-float (negsuc n) h = lt→ltb n (2 ^ 53) h

pub kept : (z : ℤ) → nat_abs z ≤ 2 ^ 53 → held w64 z ≡ z
kept z h = exact w64 (var 0) {zs = z ∷ []} (record { abs = h } ◂ ∎) tt

pub converts : (z : ℤ) → nat_abs z ≤ 2 ^ 53 → T (in_float binary64 (held w64 z))
converts z h = subst (λ y. T (in_float binary64 y)) (sym (kept z h)) (in-float z h)

-- ---- literals

pub four : of_bits binary64 4616189618054758400 ≡ double (pos 4)
unfolding of_bits of_fields odd of_int round size span climb units count_trailing_zeros
four = refl

pub scale : of_bits binary64 4695002611533742080 ≡ double bernoulli_scale
unfolding of_bits of_fields odd of_int round size span climb units count_trailing_zeros
scale = refl

pub none : of_bits binary64 0 ≡ double (pos 0)
unfolding of_bits of_fields odd of_int round size span climb units count_trailing_zeros
none = refl
