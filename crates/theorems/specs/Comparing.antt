-- Comparison of two records: same exactly where state and timestamp are, and swapped with the records. Assumes nothing.
use Rattle.std.specs.Prelude.{◌≡◌, refl, ◌↔◌, Bool, true, false, cond, ◌&&◌, List, [], ℕ, T, eqb, ℤ, pos, negsuc}
use Rattle.std.proofs.Common.{sym, ap, ap₂, subst, ◌∙◌, eqb→eq}
use Rattle.std.proofs.Math.Dec.{eqb_refl}
use Rattle.model.specs.Numbers.{eqℤ, same_by}
use Rattle.model.specs.State.{State}
use Rattle.model.specs.Record.{newer, Decoded, accepted, refused, decode, same_state, compared, compare_second, compare_by, compare_answer}
use Rattle.model.specs.Claims.{CompareClaim, BothAre, Later, swapped}
use Rattle.model.specs.declared.Timestamp.{Timestamp}
use Rattle.model.specs.declared.Refusal.{Refusal}
use Rattle.std.specs.Prelude.{Ok, Err}
use Rattle.model.specs.Answers.{CompareAnswer}
use Rattle.model.specs.declared.Comparison.TheVariants.{Same, FirstNewer, SecondNewer, Conflict}
use Rattle.model.specs.declared.CompareError.TheVariants.{First, Second}
use Rattle.theorems.specs.Truth.{◌⟫◌, and-iff, T_true, same_by_lem, by-same, differ}
use Rattle.theorems.specs.Timestamps.{newer-iff, not_itself, neither, never, not-newer}

-- ---- the same state

same-ℤ : (a b : ℤ) → T (eqℤ a b) → a ≡ b
same-ℤ (pos a) (pos b) t = ap pos (eqb→eq a b t)
same-ℤ (pos a) (negsuc b) t = absurd t
same-ℤ (negsuc a) (pos b) t = absurd t
same-ℤ (negsuc a) (negsuc b) t = ap negsuc (eqb→eq a b t)

refl-ℤ : (a : ℤ) → T (eqℤ a a)
refl-ℤ (pos a) = eqb_refl a
refl-ℤ (negsuc a) = eqb_refl a

pub same_self : (s : State) → T (same_state s s)
unfolding same_state
same_self s =
    rw (
      T_true (eqb s.w s.w) (eqb_refl s.w),
      T_true (eqb s.n s.n) (eqb_refl s.n),
      T_true (eqb s.kind s.kind) (eqb_refl s.kind),
      T_true (eqℤ s.G s.G) (refl-ℤ s.G),
      T_true (eqℤ s.c s.c) (refl-ℤ s.c),
      T_true (eqℤ s.R s.R) (refl-ℤ s.R),
      T_true (same_by eqℤ s.h s.h) (by-same eqℤ refl-ℤ s.h),
      T_true (same_by eqℤ s.b s.b) (by-same eqℤ refl-ℤ s.b),
      T_true (same_by eqℤ s.u s.u) (by-same eqℤ refl-ℤ s.u),
      T_true (same_by eqℤ s.v s.v) (by-same eqℤ refl-ℤ s.v),
    ) (by-same eqb eqb_refl s.barriers)

pub same-state : (s t : State) → T (same_state s t) → s ≡ t
unfolding same_state
same-state s t h =
    let b0 = eqb s.w t.w in
    let b1 = b0 && eqb s.n t.n in
    let b2 = b1 && eqb s.kind t.kind in
    let b3 = b2 && eqℤ s.G t.G in
    let b4 = b3 && eqℤ s.c t.c in
    let b5 = b4 && eqℤ s.R t.R in
    let b6 = b5 && same_by eqℤ s.h t.h in
    let b7 = b6 && same_by eqℤ s.b t.b in
    let b8 = b7 && same_by eqℤ s.u t.u in
    let b9 = b8 && same_by eqℤ s.v t.v in
    let p10 = (and-iff b9 (same_by eqb s.barriers t.barriers)).0 h in
    let p9 = (and-iff b8 (same_by eqℤ s.v t.v)).0 p10.0 in
    let p8 = (and-iff b7 (same_by eqℤ s.u t.u)).0 p9.0 in
    let p7 = (and-iff b6 (same_by eqℤ s.b t.b)).0 p8.0 in
    let p6 = (and-iff b5 (same_by eqℤ s.h t.h)).0 p7.0 in
    let p5 = (and-iff b4 (eqℤ s.R t.R)).0 p6.0 in
    let p4 = (and-iff b3 (eqℤ s.c t.c)).0 p5.0 in
    let p3 = (and-iff b2 (eqℤ s.G t.G)).0 p4.0 in
    let p2 = (and-iff b1 (eqb s.kind t.kind)).0 p3.0 in
    let p1 = (and-iff b0 (eqb s.n t.n)).0 p2.0 in
    λ i. record {
      w = eqb→eq s.w t.w p1.0 i;
      n = eqb→eq s.n t.n p1.1 i;
      kind = eqb→eq s.kind t.kind p2.1 i;
      G = same-ℤ s.G t.G p3.1 i;
      c = same-ℤ s.c t.c p4.1 i;
      R = same-ℤ s.R t.R p5.1 i;
      h = same_by_lem eqℤ same-ℤ s.h t.h p6.1 i;
      b = same_by_lem eqℤ same-ℤ s.b t.b p7.1 i;
      u = same_by_lem eqℤ same-ℤ s.u t.u p8.1 i;
      v = same_by_lem eqℤ same-ℤ s.v t.v p9.1 i;
      barriers = same_by_lem eqb eqb→eq s.barriers t.barriers p10.1 i;
    }

-- ---- same

abbrev pick : Bool → Bool → Bool → CompareAnswer
pick p q r = cond p (Ok FirstNewer) (cond q (Ok SecondNewer) (cond r (Ok Same) (Ok Conflict)))

picked_same : (p q r : Bool) → pick p q r ≡ (Ok Same) → (p ≡ false) × (q ≡ false) × (r ≡ true)
picked_same true q r h = differ (cc h)
picked_same false true r h = differ (cc h)
picked_same false false true h = (refl, refl, refl)
picked_same false false false h = differ (cc h)

same-means : (s t : State) (a b : Timestamp) → compared s a t b ≡ (Ok Same) → (s ≡ t) × (a ≡ b)
unfolding compared
same-means s t a b h =
    let p = picked_same (newer a b) (newer b a) (same_state s t) h in (
      same-state s t (subst T (sym p.2) tt),
      neither a b (λ l. subst T p.0 ((newer-iff a b).1 l)) (λ l. subst T p.1 ((newer-iff b a).1 l)),
    )

same-there : (s : State) (a : Timestamp) → compared s a s a ≡ Ok Same
unfolding compared
same-there s a = ap₂ (λ p r. pick p p r) (not-newer a) (T_true (same_state s s) (same_self s))

-- by what is found in the two records
both_by : (first second : List ℕ) (x y : Decoded) → decode first [] ≡ x → decode second [] ≡ y → compare_by x y ≡ (Ok Same) → BothAre first second
both_by first second (accepted s a) (accepted t b) p q h =
    let e = same-means s t a b h in
    record { state = s; timestamp = a; in-first = p; in-second = q ∙ ap₂ accepted (sym e.0) (sym e.1) }
both_by first second (accepted s a) (refused r) p q h = differ (cc h)
both_by first second (refused r) y p q h = differ (cc h)

-- ---- swapped

swapped-pick : (p q r r' : Bool) → (T p → T q → ⊥) → (T r → T r') → (T r' → T r) → pick q p r' ≡ swapped (pick p q r)
swapped-pick true true r r' n f g = absurd (n tt tt)
swapped-pick true false r r' n f g = refl
swapped-pick false true r r' n f g = refl
swapped-pick false false true true n f g = refl
swapped-pick false false true false n f g = absurd (f tt)
swapped-pick false false false true n f g = absurd (g tt)
swapped-pick false false false false n f g = refl

other_way : (s t : State) → T (same_state s t) → T (same_state t s)
other_way s t h = subst (λ x. T (same_state x s)) (same-state s t h) (same_self s)

compared-swapped : (s t : State) (a b : Timestamp) → compared t b s a ≡ swapped (compared s a t b)
unfolding compared
compared-swapped s t a b = swapped-pick (newer a b) (newer b a) (same_state s t) (same_state t s) (never a b) (other_way s t) (other_way t s)

by-decoded : (first second : List ℕ) (s t : State) (x y : Timestamp) → decode first [] ≡ accepted s x → decode second [] ≡ accepted t y → compare_answer first second ≡ compared s x t y
unfolding compare_answer
by-decoded first second s t x y p q = rw (p, q)

-- ---- newer, conflict

-- three tests, of which the first two exclude each other
picked_first : (p q r : Bool) → (pick p q r ≡ Ok FirstNewer) ↔ T p
picked_first true q r = (λ h. tt, λ t. refl)
picked_first false true r = (λ h. differ (cc h), λ t. absurd t)
picked_first false false true = (λ h. differ (cc h), λ t. absurd t)
picked_first false false false = (λ h. differ (cc h), λ t. absurd t)

picked-second : (p q r : Bool) → (T p → T q → ⊥) → (pick p q r ≡ Ok SecondNewer) ↔ T q
picked-second true q r n = (λ h. differ (cc h), λ t. absurd (n tt t))
picked-second false true r n = (λ h. tt, λ t. refl)
picked-second false false true n = (λ h. differ (cc h), λ t. absurd t)
picked-second false false false n = (λ h. differ (cc h), λ t. absurd t)

picked-conflict : (p q r : Bool) → (pick p q r ≡ Ok Conflict) ↔ ((T p → ⊥) × (T q → ⊥) × (T r → ⊥))
picked-conflict true q r = (λ h. differ (cc h), λ x. absurd (x.0 tt))
picked-conflict false true r = (λ h. differ (cc h), λ x. absurd (x.1 tt))
picked-conflict false false true = (λ h. differ (cc h), λ x. absurd (x.2 tt))
picked-conflict false false false = (λ h. (λ t. t, λ t. t, λ t. t), λ x. refl)

compared-tells : (s t : State) (a b : Timestamp)
    → ((compared s a t b ≡ Ok FirstNewer) ↔ Later a b) × ((compared s a t b ≡ Ok SecondNewer) ↔ Later b a) × ((compared s a t b ≡ Ok Conflict) ↔ ((a ≡ b) × (s ≡ t → ⊥)))
unfolding compared
compared-tells s t a b =
    let p = newer-iff a b in
    let q = newer-iff b a in
    let c = picked-conflict (newer a b) (newer b a) (same_state s t) in (
      picked_first (newer a b) (newer b a) (same_state s t) ⟫ p,
      picked-second (newer a b) (newer b a) (same_state s t) (never a b) ⟫ q,
      (
        λ h. let x = c.0 h in (neither a b (λ l. x.0 (p.1 l)) (λ l. x.1 (q.1 l)), λ e. x.2 (subst (λ z. T (same_state s z)) e (same_self s))),
        λ x. c.1 (λ l. not_itself a (subst (Later a) (sym x.0) (p.0 l)), λ l. not_itself b (subst (Later b) x.0 (q.0 l)), λ l. x.1 (same-state s t l)),
      ),
    )

-- ---- refused

accepted≢ : {A : Type 0} {s : State} {t : Timestamp} {r : Refusal} → accepted s t ≡ refused r → A
accepted≢ h = differ (cc h)

compared-not : (p q r : Bool) (x : Refusal) → (pick p q r ≡ (Err (First x)) → ⊥) × (pick p q r ≡ (Err (Second x)) → ⊥)
compared-not true q r x = (λ h. differ (cc h), λ h. differ (cc h))
compared-not false true r x = (λ h. differ (cc h), λ h. differ (cc h))
compared-not false false true x = (λ h. differ (cc h), λ h. differ (cc h))
compared-not false false false x = (λ h. differ (cc h), λ h. differ (cc h))

first_by : (x y : Decoded) (r : Refusal) → (compare_by x y ≡ Err (First r)) ↔ (x ≡ refused r)
unfolding compared
first_by (accepted s a) (accepted t b) r = (λ h. absurd ((compared-not (newer a b) (newer b a) (same_state s t) r).0 h), λ h. accepted≢ h)
first_by (accepted s a) (refused q) r = (λ h. differ (cc h), λ h. accepted≢ h)
first_by (refused q) y r = (λ h. cc h, λ h. cc h)

second-by : (s : State) (a : Timestamp) (y : Decoded) (r : Refusal) → (compare_second s a y ≡ Err (Second r)) ↔ (y ≡ refused r)
unfolding compared
second-by s a (accepted t b) r = (λ h. absurd ((compared-not (newer a b) (newer b a) (same_state s t) r).1 h), λ h. accepted≢ h)
second-by s a (refused q) r = (λ h. cc h, λ h. cc h)

-- an equation of an answer, read as one of what it is
as_is : {B : Type 0} {x y z : CompareAnswer} → x ≡ y → (y ≡ z) ↔ B → (x ≡ z) ↔ B
as_is e i = (λ h. i.0 (sym e ∙ h), λ b. e ∙ i.1 b)

pub comparison : CompareClaim
unfolding compare_answer
comparison = record {
  same = λ first second answer f. (
    λ e. both_by first second (decode first []) (decode second []) refl refl (sym f.answers ∙ e),
    λ b. f.answers ∙ by-decoded first second b.state b.state b.timestamp b.timestamp b.in-first b.in-second ∙ same-there b.state b.timestamp,
  );
  newer = λ first second answer s t x y p q f.
      let e = f.answers ∙ by-decoded first second s t x y p q in
      let c = compared-tells s t x y in
      (as_is e c.0, as_is e c.1, as_is e c.2);
  first-refused = λ first second answer r f. as_is f.answers (first_by (decode first []) (decode second []) r);
  second-refused = λ first second answer r s x p f. as_is (f.answers ∙ ap (λ z. compare_by z (decode second [])) p) (second-by s x (decode second []) r);
  swap = λ first second answer back s t x y p q f g.
      g.answers ∙ by-decoded second first t s y x q p ∙ compared-swapped s t x y ∙ ap swapped (sym (by-decoded first second s t x y p q) ∙ sym f.answers);
}
