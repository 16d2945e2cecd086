-- The probes are marked exact where all is narrow, and near elsewhere. Against the tendency call, exact doubles are the same numbers, and
-- near ones are close. What an answer is marked with is a Bool here, so that both are proved at once. Assumes nothing.
use Rattle.std.specs.Prelude.{◌≡◌, refl, ◌↔◌, Bool, true, false, cond, List, ℕ, ◌/◌, ◌%◌, ◌<◌, T, ℤ, pos, neg_ℤ, length, get_or, Float}
use Rattle.std.proofs.Common.{sym, ap, subst, ◌∙◌, zero-le, mod-lt, lit≤}
use Rattle.std.specs.Prelude.{Option, None, Some}
use Rattle.std.specs.Float.{nan}
use Rattle.model.specs.Numbers.{Within, depth_limits, bottom_limits}
use Rattle.model.specs.Numbers.{narrow_depth_limits, narrow_bottom_limits, narrow_velocity_limits, narrow_vorticity_limits}
use Rattle.model.specs.State.{State, cells, corners, closed_west, closed_south}
use Rattle.std.specs.Prelude.{Ok}
use Rattle.model.specs.Answers.{told_probe}
use Rattle.model.specs.Tests.{first_found}
use Rattle.model.specs.Refusals.{narrowed, value_tests}
use Rattle.model.specs.Scheme as Whole
use Rattle.model.specs.Doubles as Double
use Rattle.model.specs.Doubles.{IsWhole, IsNear, double, narrow, narrow_fields, is_none}
use Rattle.model.specs.Promises.{tendencies_test, probe_test, probe_of, marked, probe_answer, ProbePromise, precision_of, probe_grid_answer, ProbeGridPromise}
use Rattle.model.specs.Claims.{Narrow, ProbeTaken, ProbeClaim, DoublesRoom, ProbeGridClaim}
use Rattle.model.specs.declared.Field.TheVariants.{Depth, Bottom, VelocityU, VelocityV, Vorticity}
use Rattle.model.specs.declared.Refusal.{Refusal}
use Rattle.model.specs.declared.Refusal.TheVariants.{Value}
use Rattle.model.specs.declared.ProbeAnswer.{ProbeAnswer}
use Rattle.model.specs.Answers.{ProbeGridAnswer}
use Rattle.integers.specs.Bounds.{abs-within, within-abs}
use Rattle.integers.specs.Magnitudes.{depth-size, bottom-size, velocity-size, gravity-size, vorticity-size}
use Rattle.grid.specs.CellFields.{row_lt}
use Rattle.doubles.specs.Near.{near-weaken, whole-near, near-exact}
use Rattle.doubles.specs.Terms.{of-int}
use Rattle.doubles.specs.Bound.{Sized, wide_sizes, narrow_sizes, depth-exact, u-near, v-near, u-exact, v-exact}
use Rattle.theorems.specs.Truth.{◌⟫◌, true-T, T_true, not_T, differ, some≢}
use Rattle.theorems.specs.TestLaws.{passes}
use Rattle.theorems.specs.Limits.{inside-iff, tendencies-taken, probe-taken}
use Rattle.theorems.specs.Filling.{Left, left, left-rest, tendencies-left}

-- ---- narrow: as the test has it, and in plain words

record Inside (s : State) (q : List ℤ) : Type 0 where
  depths : (k : ℕ) → k < cells s → Within narrow_depth_limits (get_or s.h k (pos 0))
  bottoms : (k : ℕ) → k < cells s → Within narrow_bottom_limits (get_or s.b k (pos 0))
  us : (k : ℕ) → k < cells s → Within narrow_velocity_limits (get_or s.u k (pos 0))
  vs : (k : ℕ) → k < cells s → Within narrow_velocity_limits (get_or s.v k (pos 0))
  vorticities : (k : ℕ) → k < corners s → Within narrow_vorticity_limits (get_or q k (pos 0))

none-iff : {R : Type 0} (o : Option R) → T (is_none o) ↔ (o ≡ None)
none-iff None = (λ t. refl, λ e. tt)
none-iff (Some r) = (λ t. absurd t, λ e. some≢ e)

module _ (s : State) (q : List ℤ) where
  tested-inside : T (narrow s q) ↔ Inside s q
  unfolding narrow
  tested-inside =
      let tests = value_tests Value (narrow_fields s q) in
      let i = none-iff (first_found tests) ⟫ passes tests in
      let h = inside-iff (narrowed s Depth s.h) in
      let b = inside-iff (narrowed s Bottom s.b) in
      let u = inside-iff (narrowed s VelocityU s.u) in
      let v = inside-iff (narrowed s VelocityV s.v) in
      let c = inside-iff (narrowed s Vorticity q) in (
        λ t.
            let p = i.0 t in
            record {
              depths = h.0 p.0;
              bottoms = b.0 p.1.0;
              us = u.0 p.1.1.0;
              vs = v.0 p.1.1.1.0;
              vorticities = c.0 p.1.1.1.1.0;
            },
        λ n. i.1 (h.1 n.depths, (b.1 n.bottoms, (u.1 n.us, (v.1 n.vs, (c.1 n.vorticities, tt))))),
      )

  module _ (t : ProbeTaken s q) where
    -- a depth that is not too large is within the bounds, because 01's begin where the narrow ones do
    inside-plain : Inside s q ↔ Narrow s q
    unfolding depth_limits bottom_limits narrow_depth_limits narrow_bottom_limits narrow_velocity_limits narrow_vorticity_limits
    inside-plain = (
      λ n. record {
        depths = λ k l. (n.depths k l).high;
        bottoms = λ k l. (n.bottoms k l).high;
        us = λ k l. (abs-within (n.us k l) tt).abs;
        vs = λ k l. (abs-within (n.vs k l) tt).abs;
        vorticities = λ k l. (abs-within (n.vorticities k l) tt).abs;
      },
      λ n. record {
        depths = λ k l. record { low = (t.0.depths.each k l).low; high = n.depths k l };
        bottoms = λ k l. record { low = (t.0.bottoms.each k l).low; high = n.bottoms k l };
        us = λ k l. within-abs 499 _ (n.us k l);
        vs = λ k l. within-abs 499 _ (n.vs k l);
        vorticities = λ k l. within-abs 999999 _ (n.vorticities k l);
      },
    )

    narrow-iff : T (narrow s q) ↔ Narrow s q
    narrow-iff = tested-inside ⟫ inside-plain

    -- ---- how large the numbers are

    wide-sized : Sized wide_sizes s q
    wide-sized = record {
      g = gravity-size t.0.gravity;
      h = λ k l. depth-size (t.0.depths.each k l);
      b = λ k l. bottom-size (t.0.bottoms.each k l);
      u = λ k l. velocity-size (t.0.us.each k l);
      v = λ k l. velocity-size (t.0.vs.each k l);
      corner = λ k l. vorticity-size (t.1.each k l);
    }

    narrow-sized : Inside s q → Sized narrow_sizes s q
    unfolding narrow_depth_limits narrow_bottom_limits narrow_velocity_limits narrow_vorticity_limits
    narrow-sized n = record {
      g = gravity-size t.0.gravity;
      h = λ k l. abs-within (n.depths k l) tt;
      b = λ k l. abs-within (n.bottoms k l) tt;
      u = λ k l. abs-within (n.us k l) tt;
      v = λ k l. abs-within (n.vs k l) tt;
      corner = λ k l. abs-within (n.vorticities k l) tt;
    }

-- what an answer's mark says of the grid
abbrev Marks : Bool → State → List ℤ → Type 0
Marks true s q = Narrow s q
Marks false s q = Narrow s q → ⊥

marks-iff : (m : Bool) (s : State) (q : List ℤ) → ProbeTaken s q → (narrow s q ≡ m) ↔ Marks m s q
marks-iff true s q t = let i = narrow-iff s q t in (λ e. i.0 (true-T e), λ n. T_true (narrow s q) (i.1 n))
marks-iff false s q t =
    let i = narrow-iff s q t in
    (λ e n. subst T e (i.1 n), λ n. not_T (narrow s q) (λ x. n (i.0 x)))

-- ---- the doubles at a cell, and the whole numbers there

-- a closed edge's tendency is 0 in both
edge : (closed : Bool) {k : ℕ} {x : Float} {z : ℤ} → IsNear k x z → IsNear k (cond closed (double (pos 0)) x) (cond closed (pos 0) z)
edge true n = whole-near (of-int (pos 0) zero-le)
edge false n = n

module _ (s : State) (q : List ℤ) (k : ℕ) where
  abbrev i : ℕ
  i = k % s.w

  abbrev j : ℕ
  j = k / s.w

  module _ (t : ProbeTaken s q) (l : k < cells s) where
    column : i < s.w
    column = mod-lt k t.0.columns.some

    row : j < s.n
    row = row_lt t.0.columns.some l

    h-same : IsWhole (Double.tendency_h s i j) (neg_ℤ (Whole.D s i j))
    h-same = depth-exact (wide-sized s q t) column row

    u-close : IsNear 64 (Double.tendency_u s q i j) (Whole.tendency_u s q i j)
    unfolding Double.tendency_u Whole.tendency_u
    u-close = edge (closed_west s i j) (near-weaken (lit≤ tt) (u-near (wide-sized s q t) column row))

    v-close : IsNear 64 (Double.tendency_v s q i j) (Whole.tendency_v s q i j)
    unfolding Double.tendency_v Whole.tendency_v
    v-close = edge (closed_south s i j) (near-weaken (lit≤ tt) (v-near (wide-sized s q t) column row))

    u_same : Inside s q → IsWhole (Double.tendency_u s q i j) (Whole.tendency_u s q i j)
    unfolding Double.tendency_u Whole.tendency_u
    u_same n = near-exact (edge (closed_west s i j) (whole-near (u-exact (narrow-sized s q t n) column row)))

    v-same : Inside s q → IsWhole (Double.tendency_v s q i j) (Whole.tendency_v s q i j)
    unfolding Double.tendency_v Whole.tendency_v
    v-same n = near-exact (edge (closed_south s i j) (whole-near (v-exact (narrow-sized s q t n) column row)))

-- ---- the probe of a cell

-- what it is to be answered the doubles a, b and c with the mark m
record Probed (m : Bool) (s : State) (q : List ℤ) (k : ℕ) (a b c : Float) : Type 0 where
  taken : ProbeTaken s q
  within : k < cells s
  mark : narrow s q ≡ m
  h : a ≡ Double.tendency_h s (k % s.w) (k / s.w)
  u : b ≡ Double.tendency_u s q (k % s.w) (k / s.w)
  v : c ≡ Double.tendency_v s q (k % s.w) (k / s.w)

answered : (o : Option Refusal) (m n : Bool) (a b c x y z : Float) → marked m a b c ≡ probe_answer o n x y z
    → (o ≡ None) × (n ≡ m) × (a ≡ x) × (b ≡ y) × (c ≡ z)
answered None true true a b c x y z e = (refl, refl, cc e, cc e, cc e)
answered None true false a b c x y z e = differ (cc e)
answered None false true a b c x y z e = differ (cc e)
answered None false false a b c x y z e = (refl, refl, cc e, cc e, cc e)
answered (Some r) true n a b c x y z e = differ (cc e)
answered (Some r) false n a b c x y z e = differ (cc e)

probed-iff : (m : Bool) (s : State) (q : List ℤ) (k : ℕ) (a b c : Float) → ProbePromise s q k (marked m a b c) ↔ Probed m s q k a b c
unfolding probe_of
probed-iff m s q k a b c =
    let i = probe-taken s q k in (
      λ p.
          let x = answered (probe_test s q k) m (narrow s q) a b c _ _ _ p.answers in
          let t = i.0 x.0 in
          record { taken = t.0; within = t.1; mark = x.1; h = x.2; u = x.3; v = x.4 },
      λ p.
          let o = i.1 (p.taken, p.within) in
          let e : probe_of s q k ≡ marked m a b c = λ z. probe_answer (o z) (p.mark z) (sym p.h z) (sym p.u z) (sym p.v z) in
          record { answers = sym e; tells = ap told_probe (sym e) },
    )

marked-iff : (m : Bool) (s : State) (q : List ℤ) (k : ℕ) (answer : ProbeAnswer) → ProbePromise s q k answer
    → ((a : Float) × (b : Float) × (c : Float) × (answer ≡ marked m a b c)) ↔ (ProbeTaken s q × (k < cells s) × Marks m s q)
marked-iff m s q k answer p = (
  λ x.
      let r = (probed-iff m s q k x.0 x.1 x.2).0 (subst (ProbePromise s q k) x.3 p) in
      (r.taken, r.within, (marks-iff m s q r.taken).0 r.mark),
  λ x.
      let i = k % s.w in
      let j = k / s.w in
      let mark = (marks-iff m s q x.0).1 x.2 in
      let r = (probed-iff m s q k _ _ _).1 (record { taken = x.0; within = x.1; mark = mark; h = refl; u = refl; v = refl }) in
      (Double.tendency_h s i j, Double.tendency_u s q i j, Double.tendency_v s q i j, p.answers ∙ sym r.answers),
)

pub probe : ProbeClaim
probe = record {
  exact = marked-iff true;
  near = marked-iff false;
  equal = λ s q dh du dv dh' du' dv' k a b c p t.
      let x = (probed-iff true s q k a b c).0 p in
      let y = tendencies-left s q dh du dv dh' du' dv' t in
      let n = (tested-inside s q).0 (true-T x.mark) in
      record {
        h = rw (x.h, y.h.each k (pos 0) x.within) (h-same s q k x.taken x.within);
        u = rw (x.u, y.u.each k (pos 0) x.within) (u_same s q k x.taken x.within n);
        v = rw (x.v, y.v.each k (pos 0) x.within) (v-same s q k x.taken x.within n);
      };
  close = λ s q dh du dv dh' du' dv' k a b c p t.
      let x = (probed-iff false s q k a b c).0 p in
      let y = tendencies-left s q dh du dv dh' du' dv' t in
      record {
        h = rw (x.h, y.h.each k (pos 0) x.within) (h-same s q k x.taken x.within);
        u = rw (x.u, y.u.each k (pos 0) x.within) (u-close s q k x.taken x.within);
        v = rw (x.v, y.v.each k (pos 0) x.within) (v-close s q k x.taken x.within);
      };
}

-- ---- the probe of the grid

-- what it is to be answered the mark m
record GridProbed (m : Bool) (s : State) (q : List ℤ) (dh du dv dh' du' dv' : List Float) : Type 0 where
  taken : ProbeTaken s q
  room : DoublesRoom s dh du dv
  mark : narrow s q ≡ m
  h : Left s.w s.n (Double.tendency_h s) dh dh'
  u : Left s.w s.n (Double.tendency_u s q) du du'
  v : Left s.w s.n (Double.tendency_v s q) dv dv'

same_mark : (m n : Bool) → precision_of m ≡ precision_of n → n ≡ m
same_mark true true e = refl
same_mark true false e = differ (cc e)
same_mark false true e = differ (cc e)
same_mark false false e = refl

grid-answered : (o : Option Refusal) (m n : Bool) → (Ok (precision_of m) ≡ probe_grid_answer n o) ↔ ((o ≡ None) × (n ≡ m))
grid-answered None m n = (λ e. (refl, same_mark m n (cc e)), λ p. ap (λ b. Ok (precision_of b)) (sym p.1))
grid-answered (Some r) m n = (λ e. differ (cc e), λ p. some≢ p.0)

module _ (m : Bool) (s : State) (q : List ℤ) (dh du dv dh' du' dv' : List Float) where
  abbrev test : Option Refusal
  test = tendencies_test s q (length dh) (length du) (length dv)

  grid-marked-iff : (answer : ProbeGridAnswer) → ProbeGridPromise s q dh du dv answer dh' du' dv'
      → (answer ≡ Ok (precision_of m)) ↔ (ProbeTaken s q × DoublesRoom s dh du dv × Marks m s q)
  grid-marked-iff answer p =
      let i = grid-answered test m (narrow s q) in
      let t = tendencies-taken s q (length dh) (length du) (length dv) in (
        λ e.
            let x = i.0 (sym e ∙ p.answers) in
            let y = t.0 x.0 in
            (y.0, (y.1, y.2, y.3), (marks-iff m s q y.0).0 x.1),
        λ x. p.answers ∙ sym (i.1 (t.1 (x.0, x.1.0, x.1.1, x.1.2), (marks-iff m s q x.0).1 x.2)),
      )

  grid-probed : ProbeGridPromise s q dh du dv (Ok (precision_of m)) dh' du' dv' → GridProbed m s q dh du dv dh' du' dv'
  unfolding Double.h_doubles Double.u_doubles Double.v_doubles
  grid-probed p =
      let x = (grid-answered test m (narrow s q)).0 p.answers in
      let t = (tendencies-taken s q (length dh) (length du) (length dv)).0 x.0 in
      record {
        taken = t.0;
        room = (t.1, t.2, t.3);
        mark = x.1;
        h = left s.w s.n (Double.tendency_h s) dh dh' test x.0 (cc p.fills);
        u = left s.w s.n (Double.tendency_u s q) du du' test x.0 (cc p.fills);
        v = left s.w s.n (Double.tendency_v s q) dv dv' test x.0 (cc p.fills);
      }

  -- at each cell it fills in what the probe of that cell answers
  grid-cell : (k : ℕ) → k < cells s → ProbeGridPromise s q dh du dv (Ok (precision_of m)) dh' du' dv'
      → ProbePromise s q k (marked m (get_or dh' k nan) (get_or du' k nan) (get_or dv' k nan))
  grid-cell k l p =
      let x = grid-probed p in
      (probed-iff m s q k _ _ _).1 (record {
        taken = x.taken;
        within = l;
        mark = x.mark;
        h = x.h.each k nan l;
        u = x.u.each k nan l;
        v = x.v.each k nan l;
      })

pub probe-grid : ProbeGridClaim
unfolding Double.h_doubles Double.u_doubles Double.v_doubles
probe-grid = record {
  exact = grid-marked-iff true;
  near = grid-marked-iff false;
  exact-cell = grid-cell true;
  near-cell = grid-cell false;
  rest = λ s q dh du dv dh' du' dv' answer p.
      let t = tendencies_test s q (length dh) (length du) (length dv) in (
        left-rest s.w s.n (Double.tendency_h s) dh dh' t (cc p.fills),
        left-rest s.w s.n (Double.tendency_u s q) du du' t (cc p.fills),
        left-rest s.w s.n (Double.tendency_v s q) dv dv' t (cc p.fills),
      );
  equal = λ s q th tu tv th' tu' tv' dh du dv dh' du' dv' k l p t.
      probe.equal s q th tu tv th' tu' tv' k _ _ _ (grid-cell true s q dh du dv dh' du' dv' k l p) t;
  close = λ s q th tu tv th' tu' tv' dh du dv dh' du' dv' k l p t.
      probe.close s q th tu tv th' tu' tv' k _ _ _ (grid-cell false s q dh du dv dh' du' dv' k l p) t;
}
