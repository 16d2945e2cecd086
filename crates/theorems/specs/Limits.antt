-- Tests 1 to 5 pass exactly the states within the limits, with what else a call takes; test 9 the milliseconds up to 999. Assumes nothing.
use Rattle.std.specs.Prelude.{◌≡◌, refl, ◌↔◌, Bool, true, false, not, ◌&&◌, List, [], ◌∷◌, ◌++◌, ℕ, ◌*◌, ◌+◌, ◌/◌, ◌%◌, ◌≤◌, ◌<◌, T, leb, ℤ, pos, negsuc, length, get_or}
use Rattle.std.proofs.Common.{ap, subst, div-add-mod', mod-lt, div-lt_iff_lt-mul, mul_comm, eqb→eq, eq-eqb}
use Rattle.std.specs.Prelude.{None}
use Rattle.std.proofs.Math.Arith.{digits_lt, digits_div, digits_mod}
use Rattle.std.specs.Int.Signed.{le_z}
use Rattle.model.specs.Numbers.{Limits, within, Within, eqℤ, gravity_limits, coriolis_limits, ratio_limits, longest_side, longest_run, most_milliseconds}
use Rattle.model.specs.Grid.{at}
use Rattle.model.specs.State.{State, parameters_of, cells, known, boundary_of, closed_west, closed_south, Side, WithinLimits}
use Rattle.model.specs.Tests.{Test}
use Rattle.model.specs.Refusals.{Taken, taken, fields_of, run_length_test, work_length, work_test, outside, moving, grid_known, constants_within, length_tests, value_tests, edge_tests, content_tests, timed_content_tests, room_tests, cell_test, state_tests, timed_tests, call_tests}
use Rattle.model.specs.Step.{step_tests, step_test, run_tests, run_test}
use Rattle.model.specs.Record.{record_length}
use Rattle.model.specs.Promises.{tendencies_tests, tendencies_test, probe_tests, probe_test, total_tests, total_test, write_tests}
use Rattle.model.specs.Claims.{Clean, EachPasses, LimitsClaim, EachWithin, EachRoom, AcceptedClaim, StepTaken, RunTaken, ProbeTaken}
use Rattle.model.specs.declared.Parameters.{Parameters}
use Rattle.model.specs.declared.Timestamp.{Timestamp}
use Rattle.model.specs.declared.Field.{Field}
use Rattle.model.specs.declared.Field.TheVariants.{Vorticity, Inflow}
use Rattle.model.specs.declared.Refusal.{Refusal}
use Rattle.model.specs.declared.Refusal.TheVariants.{Value}
use Rattle.theorems.specs.Truth.{◌⟫◌, true-T, and-iff, not_iff, le_iff, lt_iff, eq_iff, differ}
use Rattle.theorems.specs.TestLaws.{passes, passes_append}

-- ---- 1 and 3

pub record Known (p : Parameters) : Type 0 where
  pub columns : Side p.w
  pub rows : Side p.n
  pub boundary : T (known (boundary_of p.kind))

pub known-iff : (p : Parameters) → T (grid_known p) ↔ Known p
unfolding grid_known
known-iff p =
    let a = leb 1 p.w in
    let b = leb p.w longest_side in
    let c = leb 1 p.n in
    let d = leb p.n longest_side in
    let e = known (boundary_of p.kind) in (
      λ t.
          let x = (and-iff (a && b && c && d) e).0 t in
          let q = (and-iff (a && b && c) d).0 x.0 in
          let r = (and-iff (a && b) c).0 q.0 in
          let o = (and-iff a b).0 r.0 in
          record {
            columns = record { some = (le_iff 1 p.w).0 o.0; most = (le_iff p.w longest_side).0 o.1 };
            rows = record { some = (le_iff 1 p.n).0 r.1; most = (le_iff p.n longest_side).0 q.1 };
            boundary = x.1;
          },
      λ k.
          let o = (and-iff a b).1 ((le_iff 1 p.w).1 k.columns.some, (le_iff p.w longest_side).1 k.columns.most) in
          let r = (and-iff (a && b) c).1 (o, (le_iff 1 p.n).1 k.rows.some) in
          let q = (and-iff (a && b && c) d).1 (r, (le_iff p.n longest_side).1 k.rows.most) in
          (and-iff (a && b && c && d) e).1 (q, k.boundary),
    )

pub within-iff : (l : Limits) (x : ℤ) → T (within l x) ↔ Within l x
unfolding within
within-iff l x = (
  λ t. let p = (and-iff (le_z l.least x) (le_z x l.most)).0 t in record { low = record { le = p.0 }; high = record { le = p.1 } },
  λ w. (and-iff (le_z l.least x) (le_z x l.most)).1 (w.low.le, w.high.le),
)

record Constant (p : Parameters) : Type 0 where
  gravity : Within gravity_limits p.g
  coriolis : Within coriolis_limits p.c
  ratio : Within ratio_limits p.r

constant-iff : (p : Parameters) → T (constants_within p) ↔ Constant p
unfolding constants_within
constant-iff p =
    let a = within gravity_limits p.g in
    let b = within coriolis_limits p.c in
    let c = within ratio_limits p.r in
    let i = within-iff gravity_limits p.g in
    let j = within-iff coriolis_limits p.c in
    let k = within-iff ratio_limits p.r in (
      λ t.
          let x = (and-iff (a && b) c).0 t in
          let q = (and-iff a b).0 x.0 in
          record { gravity = i.0 q.0; coriolis = j.0 q.1; ratio = k.0 x.1 },
      λ x. (and-iff (a && b) c).1 ((and-iff a b).1 (i.1 x.gravity, j.1 x.coriolis), k.1 x.ratio),
    )

-- ---- 2 and 4: each field is as long as it must be, and none of its numbers is outside

pub inside-iff : (f : Taken) → Clean (outside f) f.count ↔ ((k : ℕ) → k < f.count → Within f.limits (get_or f.numbers k (pos 0)))
inside-iff f =
    let x : ℕ → ℤ = λ k. get_or f.numbers k (pos 0) in
    let i : (k : ℕ) → (outside f k ≡ false) ↔ Within f.limits (x k) = λ k. not_iff (within f.limits (x k)) ⟫ within-iff f.limits (x k) in
    (λ h k l. (i k).0 (h k l), λ h k l. (i k).1 (h k l))

pub each-iff : {R : Type 0} (r : Field → ℕ → R) (l : List Taken) → (EachPasses (length_tests l) × EachPasses (value_tests r l)) ↔ EachWithin l
each-iff r [] = (λ p. tt, λ p. (tt, tt))
each-iff r (f ∷ l) =
    let n = eq_iff (length f.numbers) f.count in (
      λ p. (record { long = n.0 p.0.0; each = (inside-iff f).0 p.1.0 }, (each-iff r l).0 (p.0.1, p.1.1)),
      λ e. let q = (each-iff r l).1 e.1 in ((n.1 e.0.long, q.0), ((inside-iff f).1 e.0.each, q.1)),
    )

-- ---- 5

zero-iff : (x : ℤ) → T (eqℤ x (pos 0)) ↔ (x ≡ pos 0)
zero-iff (pos n) = (λ t. ap pos (eqb→eq n 0 t), λ e. true-T (eq-eqb n 0 (cc e)))
zero-iff (negsuc n) = (λ t. absurd t, λ e. differ (cc e))

still-iff : (a : Bool) (x : ℤ) → (a && not (eqℤ x (pos 0)) ≡ false) ↔ (T a → x ≡ pos 0)
still-iff true x = (λ h t. (zero-iff x).0 ((not_iff (eqℤ x (pos 0))).0 h), λ h. (not_iff (eqℤ x (pos 0))).1 ((zero-iff x).1 (h tt)))
still-iff false x = (λ h t. absurd t, λ h. refl)

-- a test of each index of a grid is one of each cell
pub by-cell : {w n : ℕ} (P : ℕ → ℕ → ℕ → Type 0) → 0 < w → ((k : ℕ) → k < w * n → P k (k % w) (k / w)) ↔ ((i j : ℕ) → i < w → j < n → P (j * w + i) i j)
by-cell {w} {n} P h = (
  λ f i j p q. subst (λ x. P (j * w + i) x j) (digits_mod j p) (subst (λ y. P (j * w + i) ((j * w + i) % w) y) (digits_div j p) (f (j * w + i) (rw (mul_comm w n) (digits_lt q p)))),
  λ f k l. subst (λ x. P x (k % w) (k / w)) (div-add-mod' k w) (f (k % w) (k / w) (mod-lt k h) ((div-lt_iff_lt-mul h).1 (rw (mul_comm n w) l))),
)

edge-iff : (s : State) (closed : State → ℕ → ℕ → Bool) (f : List ℤ) → 0 < s.w
    → Clean (moving s closed f) (cells s) ↔ ((i j : ℕ) → i < s.w → j < s.n → T (closed s i j) → at s.w f i j ≡ pos 0)
edge-iff s closed f h =
    let i : (k : ℕ) → (moving s closed f k ≡ false) ↔ (T (closed s (k % s.w) (k / s.w)) → get_or f k (pos 0) ≡ pos 0) = λ k. still-iff (closed s (k % s.w) (k / s.w)) (get_or f k (pos 0)) in
    let c = by-cell (λ k i j. T (closed s i j) → get_or f k (pos 0) ≡ pos 0) h in
    (λ e. c.0 (λ k l. (i k).0 (e k l)), λ g k l. (i k).1 (c.1 g k l))

-- ---- tests 1 to 5

-- those of a state, in any order, with those of further fields
pub record Tested (s : State) (further : List Taken) : Type 0 where
  pub grid : T (grid_known (parameters_of s))
  pub lengths : EachPasses (length_tests (fields_of s ++ further))
  pub content : EachPasses (content_tests s (fields_of s ++ further))

pub tested-iff : (s : State) (further : List Taken) → Tested s further ↔ (WithinLimits s × EachWithin further)
tested-iff s further =
    let fields = fields_of s ++ further in
    let e = each-iff Value fields in
    let a = passes_append (value_tests Value fields) (edge_tests s) in
    let k = known-iff (parameters_of s) in
    let c = constant-iff (parameters_of s) in (
      λ t.
          let x = k.0 t.grid in
          let y = c.0 t.content.0 in
          let z = a.0 t.content.1 in
          let f = e.0 (t.lengths, z.0) in (
            record {
              columns = x.columns;
              rows = x.rows;
              boundary = x.boundary;
              gravity = y.gravity;
              coriolis = y.coriolis;
              ratio = y.ratio;
              depths = f.0;
              bottoms = f.1.0;
              us = f.1.1.0;
              vs = f.1.1.1.0;
              bars = f.1.1.1.1.0;
              still-west = (edge-iff s closed_west s.u x.columns.some).0 z.1.0;
              still-south = (edge-iff s closed_south s.v x.columns.some).0 z.1.1.0;
            },
            f.1.1.1.1.1,
          ),
      λ p.
          let l = p.0 in
          let f = e.1 (l.depths, (l.bottoms, (l.us, (l.vs, (l.bars, p.1))))) in
          let w = (edge-iff s closed_west s.u l.columns.some).1 l.still-west in
          let v = (edge-iff s closed_south s.v l.columns.some).1 l.still-south in
          record {
            grid = k.1 (record { columns = l.columns; rows = l.rows; boundary = l.boundary });
            lengths = f.0;
            content = (c.1 (record { gravity = l.gravity; coriolis = l.coriolis; ratio = l.ratio }), a.1 (f.1, (w, (v, tt))));
          },
    )

accepted-iff : (s : State) (further : List Taken) (run work : List (Test Refusal))
    → EachPasses (state_tests s further run work) ↔ (WithinLimits s × EachWithin further × EachPasses run × EachPasses work)
accepted-iff s further run work =
    let fields = fields_of s ++ further in
    let i = tested-iff s further in
    let a = passes_append run (length_tests fields ++ (work ++ content_tests s fields)) in
    let b = passes_append (length_tests fields) (work ++ content_tests s fields) in
    let c = passes_append work (content_tests s fields) in (
      λ p.
          let x = a.0 p.1 in
          let y = b.0 x.1 in
          let z = c.0 y.1 in
          let t = i.0 (record { grid = p.0; lengths = y.0; content = z.1 }) in
          (t.0, t.1, x.0, z.0),
      λ p. let t = i.1 (p.0, p.1) in (t.grid, a.1 (p.2, b.1 (t.lengths, c.1 (p.3, t.content)))),
    )

pub limits-tested : LimitsClaim
limits-tested s = (λ h. ((accepted-iff s [] [] []).0 h).0, λ l. (accepted-iff s [] [] []).1 (l, tt, tt, tt))

-- ---- destinations

pub rooms-iff : (m : ℕ) (l : List ℕ) → EachPasses (room_tests m l) ↔ EachRoom m l
rooms-iff m [] = (λ t. tt, λ t. tt)
rooms-iff m (a ∷ l) = (λ p. ((le_iff m a).0 p.0, (rooms-iff m l).0 p.1), λ r. ((le_iff m a).1 r.0, (rooms-iff m l).1 r.1))

call-iff : (s : State) (further : List Taken) (m : ℕ) (l : List ℕ)
    → EachPasses (call_tests s further m l) ↔ (WithinLimits s × EachWithin further × EachRoom m l)
call-iff s further m l =
    let t = passes_append (state_tests s further [] []) (room_tests m l) in
    let a = accepted-iff s further [] [] in (
      λ h. let p = t.0 h in let b = a.0 p.0 in (b.0, b.1, (rooms-iff m l).0 p.1),
      λ p. t.1 (a.1 (p.0, p.1, tt, tt), (rooms-iff m l).1 p.2),
    )

pub accepted : AcceptedClaim
accepted = record { state = accepted-iff; call = call-iff }

-- ---- with a timestamp

pub timed-iff : (s : State) (t : Timestamp) (fields : List Taken)
    → EachPasses (timed_content_tests s t fields) ↔ (EachPasses (content_tests s fields) × (t.milliseconds ≤ most_milliseconds))
timed-iff s t fields = let i = le_iff t.milliseconds most_milliseconds in (λ p. ((p.0, p.1.1), i.0 p.1.0), λ p. (p.0.0, (i.1 p.1, p.0.1)))

pub write-iff : (s : State) (t : Timestamp) (room : ℕ)
    → EachPasses (write_tests s t room) ↔ (WithinLimits s × (t.milliseconds ≤ most_milliseconds) × (record_length s ≤ room))
write-iff s t room =
    let i = tested-iff s [] in
    let r = passes_append (timed_tests s t) (room_tests (record_length s) (room ∷ [])) in
    let l = passes_append (length_tests (fields_of s)) (timed_content_tests s t (fields_of s)) in
    let c = timed-iff s t (fields_of s) in
    let k = le_iff (record_length s) room in (
      λ p.
          let x = r.0 p in
          let y = l.0 x.0.1 in
          let z = c.0 y.1 in
          ((i.0 (record { grid = x.0.0; lengths = y.0; content = z.0 })).0, z.1, k.0 x.1.0),
      λ p. let x = i.1 (p.0, tt) in r.1 ((x.grid, l.1 (x.lengths, c.1 (x.content, p.1))), (k.1 p.2, tt)),
    )

-- ---- each call's tests pass exactly what it takes

pub total-taken : (s : State) → (total_test s ≡ None) ↔ WithinLimits s
unfolding total_test
total-taken s = passes (total_tests s) ⟫ limits-tested s

pub tendencies-taken : (s : State) (q : List ℤ) (h u v : ℕ)
    → (tendencies_test s q h u v ≡ None) ↔ (ProbeTaken s q × (cells s ≤ h) × (cells s ≤ u) × (cells s ≤ v))
unfolding tendencies_test
tendencies-taken s q h u v =
    let a = passes (tendencies_tests s q h u v) ⟫ call-iff s (taken s Vorticity q ∷ []) (cells s) (h ∷ u ∷ v ∷ []) in (
      λ e. let b = a.0 e in ((b.0, b.1.0), b.2.0, b.2.1.0, b.2.1.1.0),
      λ b. a.1 (b.0.0, (b.0.1, tt), (b.1, (b.2, (b.3, tt)))),
    )

pub probe-taken : (s : State) (q : List ℤ) (k : ℕ) → (probe_test s q k ≡ None) ↔ (ProbeTaken s q × (k < cells s))
unfolding probe_test
probe-taken s q k =
    let a = accepted-iff s (taken s Vorticity q ∷ []) [] [] in
    let p = passes (probe_tests s q k) ⟫ passes_append (state_tests s (taken s Vorticity q ∷ []) [] []) (cell_test (cells s) k ∷ []) in
    let l = lt_iff k (cells s) in (
      λ e. let b = p.0 e in let x = a.0 b.0 in ((x.0, x.1.0), l.0 b.1.0),
      λ b. p.1 (a.1 (b.0.0, (b.0.1, tt), tt, tt), (l.1 b.1, tt)),
    )

pub step-taken : (s : State) (inflow : List ℤ) (room : ℕ) → (step_test s inflow room ≡ None) ↔ StepTaken s inflow room
unfolding step_test
step-taken s inflow room =
    let a = passes (step_tests s inflow room) ⟫ accepted-iff s (taken s Inflow inflow ∷ []) [] (work_test (cells s) room ∷ []) in
    let k = le_iff (work_length s) room in
    (λ e. let b = a.0 e in (b.0, b.1.0, k.0 b.3.0), λ b. a.1 (b.0, (b.1, tt), tt, (k.1 b.2, tt)))

pub run-taken : (s : State) (inflow : List ℤ) (m room : ℕ) → (run_test s inflow m room ≡ None) ↔ RunTaken s inflow m room
unfolding run_test
run-taken s inflow m room =
    let a = passes (run_tests s inflow m room) ⟫ accepted-iff s (taken s Inflow inflow ∷ []) (run_length_test m ∷ []) (work_test (cells s) room ∷ []) in
    let k = le_iff (work_length s) room in
    let l = le_iff m longest_run in (
      λ e. let b = a.0 e in ((b.0, b.1.0, k.0 b.3.0), l.0 b.2.0),
      λ b. a.1 (b.0.0, (b.0.1, tt), (l.1 b.1, tt), (k.1 b.0.2, tt)),
    )
