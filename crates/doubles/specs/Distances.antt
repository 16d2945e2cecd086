-- Distances of whole numbers, of sums and of products. Assumes nothing.
use Rattle.std.specs.Prelude.{◌≡◌, ℕ, ◌+◌, ◌*◌, ◌≤◌, ℤ, nat_abs, neg_ℤ, ◌+ℤ◌, ◌-ℤ◌, ◌*ℤ◌}
use Rattle.std.proofs.Common.{subst, le_trans, le_of_eq, mul-le-mul, add-le-add}
use Rattle.std.proofs.lemmas.Int.{unsigned_abs-mul}
use Rattle.integers.specs.Laws.{abs_neg, abs-add, neg-sub}
use Rattle.integers.specs.Ring.{◌⊕◌, ◌⊖◌, ◌⊗◌, ◌⊜◌, Identity, ring}

by_way : Identity 3 (λ a b c. (a ⊖ b) ⊕ (b ⊖ c) ⊜ a ⊖ c)
by_way = ring tt

of-sums : Identity 4 (λ a b p q. (a ⊖ p) ⊕ (b ⊖ q) ⊜ (a ⊕ b) ⊖ (p ⊕ q))
of-sums = ring tt

of-products : Identity 4 (λ a b p q. (a ⊖ p) ⊗ q ⊕ a ⊗ (b ⊖ q) ⊜ a ⊗ b ⊖ p ⊗ q)
of-products = ring tt

from-near : Identity 2 (λ a p. p ⊕ (a ⊖ p) ⊜ a)
from-near = ring tt

-- a number that is a sum of two is at most as large as both together
by-sum : (x y : ℤ) {z : ℤ} {m n : ℕ} → x +ℤ y ≡ z → nat_abs x ≤ m → nat_abs y ≤ n → nat_abs z ≤ m + n
by-sum x y {m = m} {n = n} e h l = subst (λ z. nat_abs z ≤ m + n) e (le_trans (abs-add x y) (add-le-add h l))

pub product-size : (x y : ℤ) {m n : ℕ} → nat_abs x ≤ m → nat_abs y ≤ n → nat_abs (x *ℤ y) ≤ m * n
product-size x y h l = le_trans (le_of_eq (unsigned_abs-mul x y)) (mul-le-mul h l)

-- a is at most k from p, which is at most m
pub far : (a p : ℤ) {k m : ℕ} → nat_abs (a -ℤ p) ≤ k → nat_abs p ≤ m → nat_abs a ≤ m + k
far a p h l = by-sum p (a -ℤ p) (from-near.at a p) l h

pub via : (a b c : ℤ) {k l : ℕ} → nat_abs (a -ℤ b) ≤ k → nat_abs (b -ℤ c) ≤ l → nat_abs (a -ℤ c) ≤ k + l
via a b c h l = by-sum (a -ℤ b) (b -ℤ c) (by_way.at a b c) h l

pub sums : (a b p q : ℤ) {k l : ℕ} → nat_abs (a -ℤ p) ≤ k → nat_abs (b -ℤ q) ≤ l → nat_abs ((a +ℤ b) -ℤ (p +ℤ q)) ≤ k + l
sums a b p q h l = by-sum (a -ℤ p) (b -ℤ q) (of-sums.at a b p q) h l

pub products : (a b p q : ℤ) {k l m n : ℕ} → nat_abs (a -ℤ p) ≤ k → nat_abs (b -ℤ q) ≤ l → nat_abs p ≤ m → nat_abs q ≤ n
    → nat_abs (a *ℤ b -ℤ p *ℤ q) ≤ k * n + (m + k) * l
products a b p q h l i j =
    by-sum ((a -ℤ p) *ℤ q) (a *ℤ (b -ℤ q)) (of-products.at a b p q)
    (product-size (a -ℤ p) q h j) (product-size a (b -ℤ q) (far a p h i) l)

pub negs : (a p : ℤ) {k : ℕ} → nat_abs (a -ℤ p) ≤ k → nat_abs (neg_ℤ a -ℤ neg_ℤ p) ≤ k
negs a p h = rw (neg-sub a p, abs_neg (a -ℤ p)) h
