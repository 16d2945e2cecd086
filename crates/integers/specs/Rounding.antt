-- Rounding: rnd gives the nearest whole number, halves away from zero; and its laws, which is all that other proofs use of it. Assumes nothing.
use Rattle.std.specs.Prelude.{◌≡◌, refl, true, false, ℕ, zero, suc, ◌+◌, ◌-◌, ◌*◌, ◌/◌, ◌%◌, ◌^◌, ◌≤◌, ◌<◌, ℤ, pos, negsuc, neg_ℤ, nat_abs, ◌-ℤ◌, ◌*ℤ◌, ◌≤ℤ◌}
use Rattle.std.specs.Int.Signed.{lt_z}
use Rattle.std.proofs.lemmas.Grind.{common_steps}
use Rattle.std.proofs.Common.{sym, ap, subst, ◌∙◌, mod-lt, div-add-mod', div-lt_iff_lt-mul, mul_comm, mul_assoc, suc-mul, mul_left_comm, arith, leb→le}
use Rattle.std.proofs.Math.Nat.{div-eq_of_lt}
use Rattle.model.specs.Numbers.{rnd}
use Rattle.model.specs.Claims.{RoundingClaim}
use Rattle.integers.specs.Laws.{abs_neg, abs-sub, mul-neg, neg-sub}

-- ---- what the function `rnd` takes. Who calls it shows that its quotient is within these

abbrev pub most_dividend : ℕ
most_dividend = 2 ^ 58

abbrev pub most_divisor : ℕ
most_divisor = 2 ^ 43

pub record Roundable (a b : ℤ) : Type 0 where
  pub small : nat_abs a ≤ most_dividend
  pub some : pos 1 ≤ℤ b
  pub most : nat_abs b ≤ most_divisor

-- ---- its size

pub rnd-abs : (a b : ℤ) → nat_abs (rnd a b) ≡ (2 * nat_abs a + nat_abs b) / (2 * nat_abs b)
unfolding rnd
rnd-abs (pos a) b = refl
rnd-abs (negsuc a) b = abs_neg (pos ((2 * suc a + nat_abs b) / (2 * nat_abs b)))

-- by the sign, from the size rounded
pub rnd_negative : (a b : ℤ) (q : ℕ) → lt_z a (pos 0) ≡ true → q ≡ (2 * nat_abs a + nat_abs b) / (2 * nat_abs b) → pos 0 -ℤ pos q ≡ rnd a b
unfolding rnd
rnd_negative (pos n) b q h e = grind (arith, common_steps)
rnd_negative (negsuc n) b q h e = grind (arith, common_steps)

pub rnd_nonnegative : (a b : ℤ) (q : ℕ) → lt_z a (pos 0) ≡ false → q ≡ (2 * nat_abs a + nat_abs b) / (2 * nat_abs b) → pos q ≡ rnd a b
unfolding rnd
rnd_nonnegative (pos n) b q h e = grind (arith, common_steps)
rnd_nonnegative (negsuc n) b q h e = grind (arith, common_steps)

half : (m : ℕ) → (2 * 0 + m) / (2 * m) ≡ 0
half zero = refl
half (suc m) = div-eq_of_lt (omega arith)

pub rnd-zero : (b : ℤ) → rnd (pos 0) b ≡ pos 0
unfolding rnd
rnd-zero b = ap pos (half (nat_abs b))

-- at most k, where a is at most k times b
pub rnd-size : (k : ℕ) (a b : ℤ) → 0 < nat_abs b → nat_abs a ≤ k * nat_abs b → nat_abs (rnd a b) ≤ k
rnd-size k a b z h = rw rnd-abs (below ((2 * nat_abs a + nat_abs b) / (2 * nat_abs b)) k ((div-lt_iff_lt-mul (twice (nat_abs b) z)).1 (scaled (nat_abs a) (nat_abs b) (k * nat_abs b) (suc k * (2 * nat_abs b)) z h (products k (nat_abs b)))))
  where
    twice : (b : ℕ) → 0 < b → 0 < 2 * b
    twice b z = omega arith

    products : (k b : ℕ) → suc k * (2 * b) ≡ 2 * (k * b) + 2 * b
    products k b = suc-mul k (2 * b) ∙ ap (λ x. x + 2 * b) (mul_left_comm k 2 b)

    scaled : (a b p q : ℕ) → 0 < b → a ≤ p → q ≡ 2 * p + 2 * b → 2 * a + b < q
    scaled a b p q z h e = omega arith

    below : (x k : ℕ) → x < suc k → x ≤ k
    below x k l = omega arith

-- ---- nearest, halves away from zero

record Nearest (n m k : ℕ) : Type 0 where
  close : 2 * nat_abs (pos n -ℤ pos (m * k)) ≤ m
  outward : 2 * nat_abs (pos n -ℤ pos (m * k)) ≡ m → n < m * k

nearest : (n m : ℕ) → 1 ≤ m → Nearest n m ((2 * n + m) / (2 * m))
nearest n m h =
    let k = (2 * n + m) / (2 * m) in
    let r = (2 * n + m) % (2 * m) in
    let e : k * (2 * m) + r ≡ 2 * n + m = div-add-mod' (2 * n + m) (2 * m) in
    let f : k * (2 * m) ≡ 2 * (m * k) = doubled k m in
    let l : r < 2 * m = mod-lt (2 * n + m) (twice m h) in
    let d = abs-sub n (m * k) in
    record { close = near n m (m * k) r (k * (2 * m)) _ h e f l d; outward = away n m (m * k) r (k * (2 * m)) _ h e f l d }
  where
    twice : (m : ℕ) → 1 ≤ m → 0 < 2 * m
    twice m h = omega arith

    doubled : (k m : ℕ) → k * (2 * m) ≡ 2 * (m * k)
    doubled k m = mul_comm k (2 * m) ∙ mul_assoc 2 m k

    near : (n m p r q d : ℕ) → 1 ≤ m → q + r ≡ 2 * n + m → q ≡ 2 * p → r < 2 * m → d ≡ (n - p) + (p - n) → 2 * d ≤ m
    near n m p r q d h e f l g = omega arith

    away : (n m p r q d : ℕ) → 1 ≤ m → q + r ≡ 2 * n + m → q ≡ 2 * p → r < 2 * m → d ≡ (n - p) + (p - n) → 2 * d ≡ m → n < p
    away n m p r q d h e f l g x = omega arith

turned : (a : ℕ) (b y : ℤ) → nat_abs (neg_ℤ (pos a) -ℤ b *ℤ neg_ℤ y) ≡ nat_abs (pos a -ℤ b *ℤ y)
turned a b y = ap nat_abs (ap (λ z. neg_ℤ (pos a) -ℤ z) (mul-neg b y) ∙ neg-sub (pos a) (b *ℤ y)) ∙ abs_neg (pos a -ℤ b *ℤ y)

positive : (m : ℕ) → pos 1 ≤ℤ pos m → 1 ≤ m
positive m h = leb→le 1 m h.le

pub rounding : RoundingClaim
unfolding rnd
rounding (pos a) (pos m) h = let n = nearest a m (positive m h) in (n.close, n.outward)
rounding (pos a) (negsuc m) h = absurd h.le
rounding (negsuc a) (pos m) h =
    let n = nearest (suc a) m (positive m h) in
    let y = pos ((2 * suc a + m) / (2 * m)) in
    let e = turned (suc a) (pos m) y in
    let f : nat_abs (pos m *ℤ neg_ℤ y) ≡ m * nat_abs y = ap nat_abs (mul-neg (pos m) y) ∙ abs_neg (pos m *ℤ y) in (
      subst (λ d. 2 * d ≤ m) (sym e) n.close,
      λ x. subst (λ d. suc a < d) (sym f) (n.outward (ap (λ d. 2 * d) (sym e) ∙ x)),
    )
rounding (negsuc a) (negsuc m) h = absurd h.le
