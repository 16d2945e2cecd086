-- Rounding a whole number to a double moves it by at most half a unit of its last place, to a whole number. Assumes nothing.
use Rattle.std.specs.Prelude.{◌≡◌, Bool, true, false, not, ◌⊎◌, T, eqb, ℤ, pos, nat_abs, ◌-ℤ◌, Float}
use Rattle.std.proofs.Common.{sym, ap, ◌∙◌, subst, inl, inr, mul-one, one-mul, mul_assoc, mul_comm, mul_right_comm, mul-pos, add-mul, suc-mul, mul-le-mul_right, mul-lt-mul_of_pos_right, div-add-mod', mod-lt, div-one, le_antisymm, lt_of_lt_of_le, lt_of_le_of_lt, lt_of_not-le, not-le_of_lt, arith, leb→le, eqb→eq, lit<, lit≤, pow-add, pow_pos, pow_mono}
use Prim.Native.Nat.{ℕ, suc, ◌+◌, ◌-◌, ◌*◌, ◌/◌, ◌%◌, ◌^◌, ◌≤◌, ◌<◌, compare, Ordering}
use Rattle.std.proofs.Math.Nat.{eq_of_mul-eq-mul_right}
use Rattle.std.proofs.Math.Dec.{is_le, compare_is_eq, nleb→lt, eqb_refl}
use Rattle.std.proofs.Math.Arith.{lt_of_le-ne}
use Rattle.std.proofs.lemmas.Bool.{cases_lt}
use Rattle.std.specs.Float.{nan, inf, fin, binary64}
use Rattle.std.specs.Float.Ieee.{up, down, size, nearest, units, round}
use Rattle.std.specs.Float.Ieee.Digits.{size-lt, size-le, size_reaches}
use Rattle.std.specs.Float.Ieee.Fits.{core, round_is}
use Rattle.std.specs.Float.Ieee.Exact.{HasValue, units_val}
use Rattle.std.specs.Float.Ieee.Nearest.{closest, closest_same}
use Rattle.std.specs.Float.Ieee.Back.{round_whole}
use Rattle.model.specs.Doubles.{signed, IsNear}
use Rattle.integers.specs.Laws.{abs_neg, abs-sub, neg-sub}
use Rattle.doubles.specs.Floats.{Rounds, whole_of, abs-signed}

-- half a unit in the last place of the doubles up to n: 0 below 2 ^ 53, then 1, from 2 ^ 54 on 2, from 2 ^ 55 on 4, …
abbrev pub slip : ℕ → ℕ
slip n = 2 ^ (size n - 53) / 2

pub slip-mono : {n b : ℕ} → n ≤ b → slip n ≤ slip b
slip-mono {n} {b} h = halves _ _ (pow_mono (less (size n) (size b) (size-le n (size b) (lt_of_le_of_lt h (size-lt b)))))
  where
    less : (x y : ℕ) → x ≤ y → x - 53 ≤ y - 53
    less x y h = omega arith

    halves : (x y : ℕ) → x ≤ y → x / 2 ≤ y / 2
    halves x y h = omega arith

-- ---- the nearest multiple of u is half of u away at most

abbrev Halfway : (m n u : ℕ) → Type 0
Halfway m n u = (m * 2 ≤ n * 2 + u) × (n * 2 ≤ m * 2 + u)

abbrev Compared : Ordering → ℕ → ℕ → Type 0
Compared Ordering.lt a b = a < b
Compared Ordering.eq a b = a ≡ b
Compared Ordering.gt a b = b < a

compared : (a b : ℕ) → Compared (compare a b) a b
compared a b = go (compare a b) (leb→le a b) (nleb→lt a b) (eqb→eq a b) (λ e. subst (λ x. T (eqb a x)) e (eqb_refl a))
  where
    go : (o : Ordering) → (T (is_le o) → a ≤ b) → (T (not (is_le o)) → b < a) → (T (compare_is_eq o) → a ≡ b) → (a ≡ b → T (compare_is_eq o))
        → Compared o a b
    go Ordering.lt h k e n = lt_of_le-ne (h tt) n
    go Ordering.eq h k e n = e tt
    go Ordering.gt h k e n = k tt

nearest-halfway : (q r u : ℕ) (o : Ordering) → Compared o (r * 2) u → r < u → Halfway (nearest q o * u) (q * u + r) u
nearest-halfway q r u Ordering.lt c l = (omega arith, omega arith)
nearest-halfway q r u Ordering.eq c l =
    let x : q % 2 * u ≤ 1 * u = mul-le-mul_right u (bit q) in
    let y : 1 * u ≡ u = one-mul u in
    let z : (q + q % 2) * u ≡ q * u + q % 2 * u = add-mul q (q % 2) u in
    (omega arith, omega arith)
  where
    bit : (q : ℕ) → q % 2 ≤ 1
    bit q = omega arith
nearest-halfway q r u Ordering.gt c l = let z : suc q * u ≡ q * u + u = suc-mul q u in (omega arith, omega arith)

closest-halfway : (n u : ℕ) → 0 < u → Halfway (closest n u * u) n u
closest-halfway n u h =
    subst (λ x. Halfway (closest n u * u) x u) (div-add-mod' n u)
    (nearest-halfway (n / u) (n % u) u (compare (n % u * 2) u) (compared (n % u * 2) u) (mod-lt n h))

-- ---- with j binary places dropped

abbrev kept : ℕ → ℕ → ℕ
kept n j = closest n (2 ^ j) * 2 ^ j

over-1 : (x : Float) (s : Bool) (w l : ℕ) → 0 < l → HasValue x s (w * l) l → HasValue x s w 1
over-1 nan s w l p v = v
over-1 (inf t) s w l p v = v
over-1 (fin t m e) s w l p v =
    (v.0, mul-one (m * up e) ∙ eq_of_mul-eq-mul_right l p (m * up e) (w * down e) (v.1 ∙ mul_right_comm w l (down e)))

-- a double counts in units of 2 ^ -1074
kept-value : (s : Bool) (n j : ℕ) → kept n j < 2 ^ 64 → HasValue (core binary64 s (n * 2 ^ 1074) 1 (1074 + j)) s (kept n j) 1
kept-value s n j b =
    let q = closest n (2 ^ j) in
    let k = 1074 + j in
    let p : 2 ^ k ≡ 2 ^ 1074 * 2 ^ j = pow-add 2 1074 j in
    let same : closest (n * 2 ^ 1074) (1 * 2 ^ k) ≡ q =
    closest_same (n * 2 ^ 1074) (1 * 2 ^ k) n (2 ^ j) (mul-pos (lit< tt) (pow_pos k)) (pow_pos j)
    (mul_assoc n (2 ^ 1074) (2 ^ j) ∙ ap (λ x. n * x) (sym p ∙ sym (one-mul (2 ^ k)))) in
    let scaled : q * 2 ^ k ≡ kept n j * 2 ^ 1074 =
    ap (λ x. q * x) (p ∙ mul_comm (2 ^ 1074) (2 ^ j)) ∙ sym (mul_assoc q (2 ^ j) (2 ^ 1074)) in
    let fine : q * 2 ^ k < 2 ^ 2098 =
    subst (λ x. x < 2 ^ 2098) (sym scaled) (lt_of_lt_of_le (mul-lt-mul_of_pos_right b (pow_pos 1074)) (lit≤ tt)) in
    let v = subst (λ x. HasValue (units binary64 s q k) s x (2 ^ 1074)) scaled (units_val binary64 s q k fine) in
    subst (λ x. HasValue (units binary64 s x k) s (kept n j) 1) (sym same) (over-1 (units binary64 s q k) s (kept n j) (2 ^ 1074) (pow_pos 1074) v)

-- the places of n are its own and those it is scaled by
size-scaled : (n l : ℕ) → 0 < size n → size (n * 2 ^ l) ≡ size n + l
size-scaled n l z = le_antisymm (size-le (n * 2 ^ l) (size n + l) most) (above (size (n * 2 ^ l)) (size n) l z least)
  where
    most : n * 2 ^ l < 2 ^ (size n + l)
    most = subst (λ x. n * 2 ^ l < x) (sym (pow-add 2 (size n) l)) (mul-lt-mul_of_pos_right (size-lt n) (pow_pos l))

    reached : 2 ^ (size n - 1 + l) ≤ n * 2 ^ l
    reached =
        subst (λ x. x ≤ n * 2 ^ l) (sym (pow-add 2 (size n - 1) l))
        (mul-le-mul_right (2 ^ l) (size_reaches n (size n - 1) (pred (size n) z)))
      where
        pred : (x : ℕ) → 0 < x → x - 1 < x
        pred x h = omega arith

    least : size (n * 2 ^ l) ≤ size n - 1 + l → ⊥
    least h = not-le_of_lt (lt_of_lt_of_le (size-lt (n * 2 ^ l)) (pow_mono h)) reached

    above : (x y l : ℕ) → 0 < y → (x ≤ y - 1 + l → ⊥) → y + l ≤ x
    above x y l z h = omega (arith, lt_of_not-le h)

-- ---- a whole number rounded is a whole number, the slip away at most

record Slipped (s : Bool) (n : ℕ) : Type 0 where
  to : ℕ
  value : HasValue (round binary64 s n 1) s to 1
  most : to ≤ n + slip n
  least : n ≤ to + slip n

-- up to 53 places nothing is dropped
few : (s : Bool) (n : ℕ) → size n ≤ 53 → Slipped s n
few s n l = record { to = n; value = round_whole binary64 s n (held n (size n) l (size-lt n)); most = omega arith; least = omega arith }
  where
    held : (n k : ℕ) → k ≤ 53 → n < 2 ^ k → n ≤ 2 ^ 53
    held n k l h = omega (arith, lt_of_lt_of_le h (pow_mono l))

many : (s : Bool) (n : ℕ) → n < 2 ^ 60 → 53 < size n → Slipped s n
many s n h l =
    let j = size n - 53 in
    let m = kept n j in
    let w = closest-halfway n (2 ^ j) (pow_pos j) in
    let t = even j (drops (size n) l) in
    let most : m ≤ n + slip n = half m n (2 ^ j) w.0 t in
    let places : size (n * 2 ^ 1074 / 1) - 53 ≡ 1074 + j =
    dropped (size (n * 2 ^ 1074 / 1)) (size n) (ap size (div-one (n * 2 ^ 1074)) ∙ size-scaled n 1074 (some (size n) l)) l in
    let is : round binary64 s n 1 ≡ core binary64 s (n * 2 ^ 1074) 1 (1074 + j) =
    round_is binary64 s n 1 ∙ ap (core binary64 s (n * 2 ^ 1074) 1) places in
    record {
      to = m;
      value = subst (λ x. HasValue x s m 1) (sym is) (kept-value s n j (below m n (size n) most (size-le n 60 h) h));
      most = most;
      least = half n m (2 ^ j) w.1 t;
    }
  where
    some : (x : ℕ) → 53 < x → 0 < x
    some x h = omega arith

    drops : (x : ℕ) → 53 < x → 0 < x - 53
    drops x h = omega arith

    dropped : (x y : ℕ) → x ≡ y + 1074 → 53 < y → x - 53 ≡ 1074 + (y - 53)
    dropped x y e h = omega arith

    even : (j : ℕ) → 0 < j → 2 ^ j ≡ 2 * (2 ^ j / 2)
    even j h =
        let i = j - 1 in
        let e : j ≡ i + 1 = omega arith in
        let p : 2 ^ j ≡ 2 ^ i * 2 ^ 1 = ap (λ x. 2 ^ x) e ∙ pow-add 2 i 1 in
        omega arith

    half : (m n u : ℕ) → m * 2 ≤ n * 2 + u → u ≡ 2 * (u / 2) → m ≤ n + u / 2
    half m n u h k = omega arith

    below : (m n k : ℕ) → m ≤ n + 2 ^ (k - 53) / 2 → k ≤ 60 → n < 2 ^ 60 → m < 2 ^ 64
    below m n k h l g = omega (arith, pow_mono (cut k l))
      where
        cut : (k : ℕ) → k ≤ 60 → k - 53 ≤ 7
        cut k l = omega arith

slips : (s : Bool) (n : ℕ) → n < 2 ^ 60 → Slipped s n
slips s n h = go (cases_lt 53 (size n))
  where
    go : (53 < size n) ⊎ (size n ≤ 53) → Slipped s n
    go (inl l) = many s n h l
    go (inr l) = few s n l

-- ---- with a sign

pos-apart : (m n k : ℕ) → m ≤ n + k → n ≤ m + k → nat_abs (pos m -ℤ pos n) ≤ k
pos-apart m n k h l = rw (abs-sub m n) (omega arith)

signed-apart : (u : Bool) (m n k : ℕ) → m ≤ n + k → n ≤ m + k → nat_abs (signed u m -ℤ signed u n) ≤ k
signed-apart false m n k h l = pos-apart m n k h l
signed-apart true m n k h l = rw (neg-sub (pos m) (pos n), abs_neg (pos m -ℤ pos n)) (pos-apart m n k h l)

signed-near : (x : Float) (u : Bool) (n : ℕ) → x ≡ round binary64 u n 1 → n < 2 ^ 60 → IsNear (slip n) x (signed u n)
signed-near x u n e h =
    let d = slips u n h in
    record {
      whole = signed u d.to;
      is = rw e (whole_of (round binary64 u n 1) u d.to d.value);
      close = signed-apart u d.to n (slip n) d.most d.least;
    }

pub rounded : (x : Float) (z : ℤ) {u : Bool} → Rounds binary64 x z u → nat_abs z < 2 ^ 60 → IsNear (slip (nat_abs z)) x z
rounded x z r h =
    let n : nat_abs z ≡ r.size = ap nat_abs r.of ∙ abs-signed r.sign r.size in
    let d = signed-near x r.sign r.size r.is (subst (λ a. a < 2 ^ 60) n h) in
    subst (λ a. IsNear (slip a) x z) (sym n) (subst (IsNear (slip r.size) x) (sym r.of) d)
