-- Sums and products of doubles that are whole numbers are those numbers' sums and products, rounded once. Assumes nothing.
use Rattle.std.specs.Prelude.{◌≡◌, refl, Bool, true, false, not, cond, ◌&&◌, ◌⊎◌, ℕ, zero, suc, ◌+◌, ◌-◌, ◌*◌, ◌≤◌, ◌<◌, ltb, ℤ, pos, neg_ℤ, ◌+ℤ◌, ◌*ℤ◌, nat_abs, Float}
use Rattle.std.proofs.Common.{sym, ap, ap₂, ◌∙◌, inl, inr, mul-one, mul-zero, zero-mul, mul_assoc, mul_comm, mul-pos, add-mul, mul-le-mul_right, mul-lt-mul_of_pos_right, arith, lit<, lt-ltb, le-ltb}
use Rattle.std.proofs.Math.Nat.{mul-mul-mul_comm, mul-sub}
use Rattle.std.proofs.lemmas.Bool.{cases_lt}
use Rattle.std.proofs.Math.IntN.{neg_ℤ-+ℤ, neg_ℤ-neg_ℤ, +ℤ_comm, +ℤ-neg_ℤ_cancel, pos-*ℤ-negsuc, negsuc-*ℤ-pos, negsuc-*ℤ-negsuc}
use Rattle.std.specs.Float.{nan, inf, fin, Format}
use Rattle.std.specs.Float.Ieee.{up, down, unlike, round, sum, add, mul, neg}
use Rattle.std.specs.Float.Ieee.Exact.{HasValue}
use Rattle.std.specs.Float.Ieee.Fits.{down_pos}
use Rattle.std.specs.Float.Ieee.Scale.{round_same}
use Rattle.model.specs.Doubles.{signed, IsWhole}

-- ---- from the logic's words to the model's and back

-- a double's sign, true where it is -; a zero has one too
abbrev pub sign_of : Float → Bool
sign_of nan = false
sign_of (inf s) = s
sign_of (fin s m e) = s

-- the logic says that x is n over 1, with its sign
pub record Value (x : Float) (z : ℤ) : Type 0 where
  pub size : ℕ
  pub has : HasValue x (sign_of x) size 1
  pub is : z ≡ signed (sign_of x) size

pub value-of : (x : Float) (z : ℤ) → IsWhole x z → Value x z
value-of nan z w = elim w [ ]
value-of (inf _) z w = elim w [ ]
value-of (fin s m e) z w = record { size = w.0; has = (refl, mul-one (m * up e) ∙ w.1); is = w.2 }

pub whole_of : (x : Float) (s : Bool) (n : ℕ) → HasValue x s n 1 → IsWhole x (signed s n)
whole_of nan s n v = elim v [ ]
whole_of (inf _) s n v = elim v [ ]
whole_of (fin t m e) s n v = (n, sym (mul-one (m * up e)) ∙ v.1, ap (λ b. signed b n) (sym v.0))

-- ---- whole numbers with a sign

pub abs-signed : (s : Bool) (n : ℕ) → nat_abs (signed s n) ≡ n
abs-signed false n = refl
abs-signed true zero = refl
abs-signed true (suc n) = refl

neg-signed : (s : Bool) (n : ℕ) → neg_ℤ (signed s n) ≡ signed (not s) n
neg-signed false n = refl
neg-signed true n = neg_ℤ-neg_ℤ (pos n)

mul-signed : (s t : Bool) (a b : ℕ) → signed s a *ℤ signed t b ≡ signed (unlike s t) (a * b)
mul-signed false false a b = refl
mul-signed false true a zero = rw mul-zero
mul-signed false true a (suc b) = pos-*ℤ-negsuc a b
mul-signed true false zero b = rw zero-mul
mul-signed true false (suc a) b = negsuc-*ℤ-pos a b
mul-signed true true zero zero = refl
mul-signed true true zero (suc b) = rw zero-mul
mul-signed true true (suc a) zero = rw mul-zero
mul-signed true true (suc a) (suc b) = negsuc-*ℤ-negsuc a b

-- a difference has the sign of the larger
over : (a b : ℕ) → b ≤ a → pos a +ℤ neg_ℤ (pos b) ≡ pos (a - b)
over a b h =
    let e : a - b + b ≡ a = omega arith in
    rw e at (+ℤ-neg_ℤ_cancel (pos (a - b)) (pos b))

under : (a b : ℕ) → a ≤ b → pos a +ℤ neg_ℤ (pos b) ≡ neg_ℤ (pos (b - a))
under a b h =
    +ℤ_comm (pos a) (neg_ℤ (pos b))
    ∙ ap (λ z. neg_ℤ (pos b) +ℤ z) (sym (neg_ℤ-neg_ℤ (pos a)))
    ∙ sym (neg_ℤ-+ℤ (pos b) (neg_ℤ (pos a)))
    ∙ ap neg_ℤ (over b a h)

-- ---- products and sums of doubles, over a denominator

pub mul-round : (f : Format) (x y : Float) (s t : Bool) (a b : ℕ) → HasValue x s a 1 → HasValue y t b 1
    → mul f x y ≡ round f (unlike s t) (a * b) 1
unfolding mul
mul-round f nan y s t a b v w = elim v [ ]
mul-round f (inf _) y s t a b v w = elim v [ ]
mul-round f (fin s' m e) nan s t a b v w = elim w [ ]
mul-round f (fin s' m e) (inf _) s t a b v w = elim w [ ]
mul-round f (fin s' m e) (fin t' n d) s t a b v w =
    let p = m * up e * (n * up d) in
    let c = down e * down d in
    let same : p ≡ a * b * c =
    ap (λ z. z * (n * up d)) (sym (mul-one (m * up e)) ∙ v.1)
    ∙ ap (λ z. a * down e * z) (sym (mul-one (n * up d)) ∙ w.1)
    ∙ mul-mul-mul_comm a (down e) b (down d) in
    ap (λ u. round f (unlike u t') p c) v.0
    ∙ ap (λ u. round f (unlike s u) p c) w.0
    ∙ round_same f (unlike s t) p c (a * b) 1 (mul-pos (down_pos e) (down_pos d)) (lit< tt) (mul-one p ∙ same)

pub add-sum : (f : Format) (x y : Float) (s t : Bool) (a b : ℕ) → HasValue x s a 1 → HasValue y t b 1
    → (c : ℕ) × (0 < c) × (add f x y ≡ sum f s (a * c) t (b * c) c)
unfolding add
add-sum f nan y s t a b v w = elim v [ ]
add-sum f (inf _) y s t a b v w = elim v [ ]
add-sum f (fin s' m e) nan s t a b v w = elim w [ ]
add-sum f (fin s' m e) (inf _) s t a b v w = elim w [ ]
add-sum f (fin s' m e) (fin t' n d) s t a b v w =
    let c = down e * down d in
    let x = m * up e * down d in
    let y = n * up d * down e in
    let x-is : x ≡ a * c = ap (λ z. z * down d) (sym (mul-one (m * up e)) ∙ v.1) ∙ mul_assoc a (down e) (down d) in
    let y-is : y ≡ b * c =
    ap (λ z. z * down e) (sym (mul-one (n * up d)) ∙ w.1)
    ∙ mul_assoc b (down d) (down e)
    ∙ ap (λ z. b * z) (mul_comm (down d) (down e)) in (
      c,
      mul-pos (down_pos e) (down_pos d),
      λ i. sum f (v.0 i) (x-is i) (w.0 i) (y-is i) c,
    )

-- a sum and a difference of numbers of c-ths, rounded, is that of the numbers
pub total : (f : Format) (u : Bool) (a b c : ℕ) → 0 < c → round f u (a * c + b * c) c ≡ round f u (a + b) 1
total f u a b c h = round_same f u (a * c + b * c) c (a + b) 1 h (lit< tt) (mul-one (a * c + b * c) ∙ sym (add-mul a b c))

pub rest : (f : Format) (u : Bool) (a b c : ℕ) → 0 < c → round f u (a * c - b * c) c ≡ round f u (a - b) 1
rest f u a b c h = round_same f u (a * c - b * c) c (a - b) 1 h (lit< tt) (mul-one (a * c - b * c) ∙ sym out)
  where
    out : (a - b) * c ≡ a * c - b * c
    out = mul_comm (a - b) c ∙ mul-sub c a b ∙ ap (λ z. z - c * b) (mul_comm c a) ∙ ap (λ z. a * c - z) (mul_comm c b)

-- ---- x is z, rounded once; where that is a zero, its sign is u

pub record Rounds (f : Format) (x : Float) (z : ℤ) (u : Bool) : Type 0 where
  pub sign : Bool
  pub size : ℕ
  pub is : x ≡ round f sign size 1
  pub of : z ≡ signed sign size
  pub zero-sign : size ≡ 0 → sign ≡ u

abbrev rounds : {f : Format} {x : Float} {z : ℤ} {u : Bool} (s : Bool) (n : ℕ) → x ≡ round f s n 1 → z ≡ signed s n → (n ≡ 0 → s ≡ u)
    → Rounds f x z u
rounds s n e o z = record { sign = s; size = n; is = e; of = o; zero-sign = z }

-- how c-ths compare is how the numbers do
pub scaled-lt : (a b c : ℕ) → 0 < c → a < b → ltb (a * c) (b * c) ≡ true
scaled-lt a b c p h = lt-ltb (a * c) (b * c) (mul-lt-mul_of_pos_right h p)

pub scaled-le : (a b c : ℕ) → b ≤ a → ltb (a * c) (b * c) ≡ false
scaled-le a b c h = le-ltb (a * c) (b * c) (mul-le-mul_right c h)

-- a number less a smaller one is no zero
no_zero : {a b : ℕ} {A : Type 0} → a < b → b - a ≡ 0 → A
no_zero h z = absurd (omega arith)

-- a sum is -0.0 only where both have the sign -
sum-rounds : (f : Format) (s t : Bool) (a b c : ℕ) → 0 < c → Rounds f (sum f s (a * c) t (b * c) c) (signed s a +ℤ signed t b) (s && t)
unfolding sum
sum-rounds f false false a b c p = rounds false (a + b) (total f false a b c p) refl (λ z. refl)
sum-rounds f true true a b c p = rounds true (a + b) (total f true a b c p) (sym (neg_ℤ-+ℤ (pos a) (pos b))) (λ z. refl)
sum-rounds f false true a b c p = go (cases_lt a b)
  where
    go : (a < b) ⊎ (b ≤ a)
        → Rounds f (cond (ltb (a * c) (b * c)) (round f true (b * c - a * c) c) (round f false (a * c - b * c) c)) (pos a +ℤ neg_ℤ (pos b)) false
    go (inl h) = rounds true (b - a) (rw (scaled-lt a b c p h) (rest f true b a c p)) (under a b (omega arith)) (no_zero h)
    go (inr h) = rounds false (a - b) (rw (scaled-le a b c h) (rest f false a b c p)) (over a b h) (λ z. refl)
sum-rounds f true false a b c p = go (cases_lt a b) (cases_lt b a)
  where
    turned : {z : ℤ} → pos b +ℤ neg_ℤ (pos a) ≡ z → neg_ℤ (pos a) +ℤ pos b ≡ z
    turned e = +ℤ_comm (neg_ℤ (pos a)) (pos b) ∙ e

    go : (a < b) ⊎ (b ≤ a) → (b < a) ⊎ (a ≤ b)
        → Rounds f
        (cond (ltb (a * c) (b * c)) (round f false (b * c - a * c) c) (round f (ltb (b * c) (a * c)) (a * c - b * c) c))
        (neg_ℤ (pos a) +ℤ pos b) false
    go (inl h) k = rounds false (b - a) (rw (scaled-lt a b c p h) (rest f false b a c p)) (turned (over b a (omega arith))) (λ z. refl)
    go (inr h) (inl k) =
        rounds true (a - b) (rw (scaled-le a b c h, scaled-lt b a c p k) (rest f true a b c p)) (turned (under b a h)) (no_zero k)
    go (inr h) (inr k) =
        rounds false (a - b) (rw (scaled-le a b c h, scaled-le b a c k) (rest f false a b c p)) (turned (over b a k ∙ ap pos (omega arith)))
        (λ z. refl)

pub add_rounds : (f : Format) (x y : Float) (p q : ℤ) → IsWhole x p → IsWhole y q → Rounds f (add f x y) (p +ℤ q) (sign_of x && sign_of y)
add_rounds f x y p q v w =
    let a = value-of x p v in
    let b = value-of y q w in
    let c = add-sum f x y (sign_of x) (sign_of y) a.size b.size a.has b.has in
    let r = sum-rounds f (sign_of x) (sign_of y) a.size b.size c.0 c.1 in
    rounds r.sign r.size (c.2 ∙ r.is) (ap₂ ◌+ℤ◌ a.is b.is ∙ r.of) r.zero-sign

pub mul-rounds : (f : Format) (x y : Float) (p q : ℤ) → IsWhole x p → IsWhole y q
    → Rounds f (mul f x y) (p *ℤ q) (unlike (sign_of x) (sign_of y))
mul-rounds f x y p q v w =
    let a = value-of x p v in
    let b = value-of y q w in
    rounds (unlike (sign_of x) (sign_of y)) (a.size * b.size)
    (mul-round f x y (sign_of x) (sign_of y) a.size b.size a.has b.has)
    (ap₂ ◌*ℤ◌ a.is b.is ∙ mul-signed (sign_of x) (sign_of y) a.size b.size)
    (λ z. refl)

-- a negation rounds nothing
pub neg-whole : (x : Float) (z : ℤ) → IsWhole x z → IsWhole (neg x) (neg_ℤ z)
unfolding neg
neg-whole nan z w = elim w [ ]
neg-whole (inf _) z w = elim w [ ]
neg-whole (fin s m e) z w = (w.0, w.1, ap neg_ℤ w.2 ∙ neg-signed s w.0)
