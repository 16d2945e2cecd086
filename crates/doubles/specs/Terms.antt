-- Expressions over whole numbers, worked out in doubles, each operation rounded once: how far the double is from the whole number is
-- computed from the sizes of the variables. Assumes nothing.
use Rattle.std.proofs.Common.{subst, le_refl, le_trans, le_of_eq, add_comm, add-le-add, lt_of_le_of_lt, leb→le, ltb→lt}
use Rattle.std.specs.Prelude.{Bool, true, false, List, ℕ, suc, ◌+◌, ◌*◌, ◌^◌, ◌≤◌, ◌<◌, T, leb, ltb, ℤ, pos, negsuc, neg_ℤ, nat_abs, ◌+ℤ◌, ◌-ℤ◌, ◌*ℤ◌, Float}
use Rattle.std.specs.Float.{binary64}
use Rattle.std.specs.Float.Ieee.{sub, neg, of_int, round}
use Rattle.std.specs.Float.Ieee.Back.{round_whole}
use Rattle.model.specs.Doubles.{IsWhole, IsNear, double, ◌⊞◌, ◌⊟◌, ◌⊠◌}
use Rattle.integers.specs.Laws.{abs_neg, abs-add}
use Rattle.integers.specs.Ring.{◌and◌}
use Rattle.integers.specs.Bounds.{Sizes, valued, sized, each, split}
use Rattle.doubles.specs.Near.{near-weaken, whole-near}
use Rattle.doubles.specs.Floats.{Rounds, add_rounds, mul-rounds, neg-whole, whole_of}
use Rattle.doubles.specs.Rounded.{slip, slip-mono, rounded}
use Rattle.doubles.specs.Distances.{far, via, sums, products, product-size, negs}

infixl 60 ◌⊕◌ ◌⊖◌
infixl 70 ◌⊗◌
pub data Term : Type 0 where
  var : ℕ → Term
  con : ℤ → Term
  minus : Term → Term
  ◌⊕◌ : Term → Term → Term
  ◌⊖◌ : Term → Term → Term
  ◌⊗◌ : Term → Term → Term

-- in whole numbers, and in doubles
abbrev pub whole : (ℕ → ℤ) → Term → ℤ
whole ρ (var n) = ρ n
whole ρ (con z) = z
whole ρ (minus a) = neg_ℤ (whole ρ a)
whole ρ (a ⊕ b) = whole ρ a +ℤ whole ρ b
whole ρ (a ⊖ b) = whole ρ a -ℤ whole ρ b
whole ρ (a ⊗ b) = whole ρ a *ℤ whole ρ b

abbrev pub doubled : (ℕ → ℤ) → Term → Float
doubled ρ (var n) = double (ρ n)
doubled ρ (con z) = double z
doubled ρ (minus a) = neg (doubled ρ a)
doubled ρ (a ⊕ b) = doubled ρ a ⊞ doubled ρ b
doubled ρ (a ⊖ b) = doubled ρ a ⊟ doubled ρ b
doubled ρ (a ⊗ b) = doubled ρ a ⊠ doubled ρ b

-- ---- how large the whole number becomes, and how far the double is from it

abbrev pub most : (ℕ → ℕ) → Term → ℕ
most A (var n) = A n
most A (con z) = nat_abs z
most A (minus a) = most A a
most A (a ⊕ b) = most A a + most A b
most A (a ⊖ b) = most A a + most A b
most A (a ⊗ b) = most A a * most A b

-- of a product: m and n are the sizes of the factors, k and l how far they are off
abbrev pub product_error : (m n k l : ℕ) → ℕ
product_error m n k l = k * n + (m + k) * l

-- a result of size m that is e off before it is rounded
abbrev rounding : (m e : ℕ) → ℕ
rounding m e = e + slip (m + e)

abbrev pub error : (ℕ → ℕ) → Term → ℕ
error A (var n) = 0
error A (con z) = 0
error A (minus a) = error A a
error A (a ⊕ b) = rounding (most A a + most A b) (error A a + error A b)
error A (a ⊖ b) = rounding (most A a + most A b) (error A a + error A b)
error A (a ⊗ b) = rounding (most A a * most A b) (product_error (most A a) (most A b) (error A a) (error A b))

-- the numbers put in are held whole, and no result is too large to be rounded as `Rounded` says
abbrev pub small : (m e : ℕ) → Bool
small m e = ltb (m + e) (2 ^ 60)

abbrev pub tame : (ℕ → ℕ) → Term → Bool
tame A (var n) = leb (A n) (2 ^ 53)
tame A (con z) = leb (nat_abs z) (2 ^ 53)
tame A (minus a) = tame A a
tame A (a ⊕ b) = small (most A a + most A b) (error A a + error A b) and tame A a and tame A b
tame A (a ⊖ b) = small (most A a + most A b) (error A a + error A b) and tame A a and tame A b
tame A (a ⊗ b) = small (most A a * most A b) (product_error (most A a) (most A b) (error A a) (error A b)) and tame A a and tame A b

-- ---- one operation

pub of-int : (z : ℤ) → nat_abs z ≤ 2 ^ 53 → IsWhole (double z) z
unfolding of_int
of-int (pos n) h = whole_of (round binary64 false n 1) false n (round_whole binary64 false n h)
of-int (negsuc n) h = whole_of (round binary64 true (suc n) 1) true (suc n) (round_whole binary64 true (suc n) h)

neg-near : {k : ℕ} {x : Float} {p : ℤ} → IsNear k x p → IsNear k (neg x) (neg_ℤ p)
neg-near {x = x} {p = p} v =
    record { whole = neg_ℤ v.whole; is = neg-whole x v.whole v.is; close = negs v.whole p v.close }

-- the result x is r rounded, and r is e from the number z
once : {x : Float} (r z : ℤ) {u : Bool} {m e : ℕ} → Rounds binary64 x r u → nat_abs (r -ℤ z) ≤ e → nat_abs z ≤ m → m + e < 2 ^ 60
    → IsNear (rounding m e) x z
once {x} r z {m = m} {e = e} o c s h =
    let i : nat_abs r ≤ m + e = far r z c s in
    let d = rounded x r o (lt_of_le_of_lt i h) in
    record {
      whole = d.whole;
      is = d.is;
      close = subst (λ t. nat_abs (d.whole -ℤ z) ≤ t) (add_comm (slip (m + e)) e) (via d.whole r z (le_trans d.close (slip-mono i)) c);
    }

add-near : {k l m n : ℕ} {x y : Float} {p q : ℤ} → IsNear k x p → IsNear l y q → nat_abs p ≤ m → nat_abs q ≤ n
    → m + n + (k + l) < 2 ^ 60 → IsNear (rounding (m + n) (k + l)) (x ⊞ y) (p +ℤ q)
add-near {x = x} {y = y} {p = p} {q = q} v w i j h =
    let a = v.whole in
    let b = w.whole in
    once (a +ℤ b) (p +ℤ q) (add_rounds binary64 x y a b v.is w.is) (sums a b p q v.close w.close)
    (le_trans (abs-add p q) (add-le-add i j)) h

mul-near : {k l m n : ℕ} {x y : Float} {p q : ℤ} → IsNear k x p → IsNear l y q → nat_abs p ≤ m → nat_abs q ≤ n
    → m * n + product_error m n k l < 2 ^ 60 → IsNear (rounding (m * n) (product_error m n k l)) (x ⊠ y) (p *ℤ q)
mul-near {x = x} {y = y} {p = p} {q = q} v w i j h =
    let a = v.whole in
    let b = w.whole in
    once (a *ℤ b) (p *ℤ q) (mul-rounds binary64 x y a b v.is w.is) (products a b p q v.close w.close i j)
    (product-size p q i j) h

-- ---- the law

module _ (ρ : ℕ → ℤ) (A : ℕ → ℕ) (s : (n : ℕ) → nat_abs (ρ n) ≤ A n) where
  negated : (a : Term) → nat_abs (whole ρ a) ≤ most A a → nat_abs (neg_ℤ (whole ρ a)) ≤ most A a
  negated a h = le_trans (le_of_eq (abs_neg (whole ρ a))) h

  size : (e : Term) → nat_abs (whole ρ e) ≤ most A e
  size (var n) = s n
  size (con z) = le_refl (nat_abs z)
  size (minus a) = negated a (size a)
  size (a ⊕ b) = le_trans (abs-add (whole ρ a) (whole ρ b)) (add-le-add (size a) (size b))
  size (a ⊖ b) = le_trans (abs-add (whole ρ a) (neg_ℤ (whole ρ b))) (add-le-add (size a) (negated b (size b)))
  size (a ⊗ b) = product-size (whole ρ a) (whole ρ b) (size a) (size b)

  close-by : (e : Term) → T (tame A e) → IsNear (error A e) (doubled ρ e) (whole ρ e)
  unfolding sub
  close-by (var n) t = whole-near (of-int (ρ n) (le_trans (s n) (leb→le (A n) (2 ^ 53) t)))
  close-by (con z) t = whole-near (of-int z (leb→le (nat_abs z) (2 ^ 53) t))
  close-by (minus a) t = neg-near (close-by a t)
  close-by (a ⊕ b) t =
      let p = split (small (most A a + most A b) (error A a + error A b)) (tame A a) (tame A b) t in
      add-near (close-by a p.1) (close-by b p.2) (size a) (size b) (ltb→lt _ (2 ^ 60) p.0)
  close-by (a ⊖ b) t =
      let p = split (small (most A a + most A b) (error A a + error A b)) (tame A a) (tame A b) t in
      add-near (close-by a p.1) (neg-near (close-by b p.2)) (size a) (negated b (size b)) (ltb→lt _ (2 ^ 60) p.0)
  close-by (a ⊗ b) t =
      let p = split (small (most A a * most A b) (product_error (most A a) (most A b) (error A a) (error A b))) (tame A a) (tame A b) t in
      mul-near (close-by a p.1) (close-by b p.2) (size a) (size b) (ltb→lt _ (2 ^ 60) p.0)

-- the double of an expression is a whole number at most k from the expression's
pub near : (e : Term) {zs : List ℤ} {bs : List ℕ} {k : ℕ} → Sizes zs bs → T (tame (sized bs) e) → T (leb (error (sized bs) e) k)
    → IsNear k (doubled (valued zs) e) (whole (valued zs) e)
near e {zs} {bs} {k} h t l = near-weaken (leb→le (error (sized bs) e) k l) (close-by (valued zs) (sized bs) (each h) e t)
