-- What the step program prints fits its room: how long a number, a line and the whole can be. Assumes nothing.
use Rattle.std.specs.Prelude.{◌≡◌, refl, Bool, true, false, cond, List, [], ◌∷◌, ℕ, zero, suc, ◌+◌, ◌*◌, ◌/◌, ◌%◌, ◌^◌, ◌≤◌, ◌<◌, leb, ltb, ℤ, pos, negsuc, nat_abs, length, get_or, replicate}
use Rattle.std.proofs.Common.{sym, subst, zero-le, suc-le-suc, le_trans, add-le-add, div-le_self, div-lt_iff_lt-mul, pow-suc, arith, length-append, ltb-false}
use Prim.Native.Char.{code}
use Rattle.std.proofs.Math.Nat.{mod-le}
use Rattle.model.specs.Numbers.{total}
use Rattle.model.specs.Grid.{tabulate}
use Rattle.model.specs.State.{State, cells, WithinLimits}
use Rattle.model.specs.Answers.{number}
use Rattle.model.specs.Totals.{total_depth}
use Rattle.model.specs.Step.{step_answer, step_state}
use Rattle.model.specs.Record.{Decoded, accepted, refused, decode}
use Rattle.model.specs.Program.{text, digits_onto, decimal, line, refused_line, total_line, cell_line, lines, state_lines, step_lines, inflow_for, stepped_lines, input_limit, program_read, program_cells, program_work, program_output}
use Rattle.model.specs.Claims.{OutputClaim}
use Rattle.model.specs.declared.Timestamp.{Timestamp}
use Rattle.model.specs.declared.Refusal.{Refusal}
use Rattle.model.specs.declared.Refusal.TheVariants.{Grid, Lengths, Constants, Value, ClosedEdge, Record, Destination, Milliseconds, NoSuchCell}
use Rattle.std.specs.Prelude.{Ok, Err}
use Rattle.model.specs.Answers.{StepAnswer}
use Rattle.model.specs.declared.StepError.{StepError}
use Rattle.integers.specs.Laws.{abs-add}
use Rattle.integers.specs.Magnitudes.{depth-size, velocity-size}
use Rattle.theorems.specs.Truth.{differ}
use Rattle.theorems.specs.Rewrite.{decoded-within}
use Rattle.theorems.specs.Stepping.{step-leaves}

-- ---- numbers

-- m digits at most are as many as a number below a power of ten has
abbrev Short : ℕ → Type 0
Short m = (x k : ℕ) (l : List ℕ) → x < 10 ^ suc k → length (digits_onto m x l) ≤ suc k + length l

digits-by : (m : ℕ) → Short m → (x k : ℕ) (l : List ℕ) (one : Bool) → ltb x 10 ≡ one → x < 10 ^ suc k
    → length (cond one ((code "0" + x % 10) ∷ l) (digits_onto m (x / 10) ((code "0" + x % 10) ∷ l))) ≤ suc k + length l
digits-by m more x k l true e h = omega arith
digits-by m more x zero l false e h = absurd (omega (arith, ltb-false x 10 e))
digits-by m more x (suc k) l false e h = le_trans (more (x / 10) k (_ ∷ l) ((div-lt_iff_lt-mul {k = 10} (omega arith)).1 (subst (λ y. x < y) (pow-suc 10 (suc k)) h))) (omega arith)

digits_long : (m : ℕ) → Short m
digits_long zero x k l h = omega arith
digits_long (suc m) x k l h = digits-by m (digits_long m) x k l (ltb x 10) refl h

natural-long : (k x : ℕ) → x < 10 ^ suc k → length (decimal (pos x)) ≤ suc k
natural-long k x h = le_trans (digits_long (suc x) x k [] h) (omega arith)

-- with a sign
decimal-long : (k : ℕ) (x : ℤ) → nat_abs x < 10 ^ suc k → length (decimal x) ≤ 2 + k
decimal-long k (pos x) h = le_trans (natural-long k x h) (omega arith)
decimal-long k (negsuc x) h = le_trans (suc-le-suc (digits_long (suc (suc x)) (suc x) k [] h)) (omega arith)

-- the size of a sum
total-most : (m : ℕ) (l : List ℤ) → ((k : ℕ) → k < length l → nat_abs (get_or l k (pos 0)) ≤ m) → nat_abs (total l) ≤ length l * m
unfolding total
total-most m [] h = zero-le
total-most m (x ∷ l) h =
    le_trans (abs-add x (total l)) (subst (λ y. nat_abs x + nat_abs (total l) ≤ y) (more (length l)) (add-le-add (h 0 (omega arith)) (total-most m l (λ k p. h (suc k) (suc-le-suc p)))))
  where
    more : (n : ℕ) → m + n * m ≡ suc n * m
    more n = omega arith

-- ---- lines

-- a line of two words, and of five
two-long : (a b : List ℕ) → length (line (a ∷ b ∷ [])) ≡ length a + length b + 2
two-long a b = rw (length-append, length-append) (omega arith)

five-long : (a b c d e : List ℕ) → length (line (a ∷ b ∷ c ∷ d ∷ e ∷ [])) ≡ length a + length b + length c + length d + length e + 5
five-long a b c d e = rw (length-append, length-append, length-append, length-append, length-append) (omega arith)

refused-long : (k : ℕ) → k < 100 → length (refused_line k) ≤ 11
refused-long k h = subst (λ m. m ≤ 11) (sym (two-long (text "refused") (decimal (pos k)))) (omega (arith, natural-long 1 k h))

-- the number of a refusal has two digits at most
pub two_digits : (r : Refusal) → number r < 100
two_digits Grid = omega arith
two_digits Lengths = omega arith
two_digits Constants = omega arith
two_digits (Value f k) = omega arith
two_digits (ClosedEdge f k) = omega arith
two_digits (Record k) = omega arith
two_digits Destination = omega arith
two_digits Milliseconds = omega arith
two_digits NoSuchCell = omega arith

total-long : (x : ℤ) → nat_abs x < 10 ^ 9 → length (total_line x) ≤ 17
total-long x h = subst (λ m. m ≤ 17) (sym (two-long (text "total") (decimal x))) (omega (arith, decimal-long 8 x h))

-- of a cell: two numbers below 1,024, a depth and two velocities
cell-long : (w : ℕ) (h u v : List ℤ) (k : ℕ) → k < 1024 → nat_abs (get_or h k (pos 0)) ≤ 100000 → nat_abs (get_or u k (pos 0)) ≤ 5000 → nat_abs (get_or v k (pos 0)) ≤ 5000
    → length (cell_line w h u v k) ≤ 30
cell-long w h u v k p a b c =
    subst (λ m. m ≤ 30) (sym (five-long (decimal (pos (k % w))) (decimal (pos (k / w))) (decimal (get_or h k (pos 0))) (decimal (get_or u k (pos 0))) (decimal (get_or v k (pos 0)))))
    (omega (
      arith,
      natural-long 3 (k % w) (omega (arith, mod-le k w)),
      natural-long 3 (k / w) (omega (arith, div-le_self k w)),
      decimal-long 5 (get_or h k (pos 0)) (omega (arith, a)),
      decimal-long 3 (get_or u k (pos 0)) (omega (arith, b)),
      decimal-long 3 (get_or v k (pos 0)) (omega (arith, c)),
    ))

lines_long : (m : ℕ) (f : ℕ → List ℕ) → ((k : ℕ) → k < m → length (f k) ≤ 30) → length (lines (tabulate m f)) ≤ m * 30
lines_long zero f h = zero-le
lines_long (suc m) f h =
    subst (λ n. n ≤ suc m * 30) (sym (length-append (f 0) (lines (tabulate m (λ k. f (suc k)))))) (omega (arith, h 0 (omega arith), lines_long m (λ k. f (suc k)) (λ k p. h (suc k) (suc-le-suc p))))

-- ---- the whole

state-long : (s : State) → WithinLimits s → cells s ≤ program_cells → length (state_lines s) ≤ 30737
unfolding total_depth
state-long s l p =
    let f = cell_line s.w s.h s.u s.v in
    let depth : (k : ℕ) → k < cells s → nat_abs (get_or s.h k (pos 0)) ≤ 100000 = λ k q. (depth-size (l.depths.each k q)).abs in
    let most = total-most 100000 s.h (λ k q. depth k (subst (λ m. k < m) l.depths.long q)) in
    let sum = total-long (total s.h) (omega (arith, most, l.depths.long)) in
    let each = lines_long (cells s) f (λ k q. cell-long s.w s.h s.u s.v k (omega arith) (depth k q) (velocity-size (l.us.each k q)).abs (velocity-size (l.vs.each k q)).abs) in
    subst (λ m. m ≤ 30737) (sym (length-append (total_line (total s.h)) (lines (tabulate (cells s) f)))) (omega arith)

step-long : (a : StepAnswer) (s : State) → WithinLimits s → cells s ≤ program_cells → length (step_lines a s) ≤ 30737
step-long (Ok x) s l p = state-long s l p
step-long (Err (StepError.Refused r)) s l p = le_trans (refused-long (number r) (two_digits r)) (omega arith)
step-long (Err (StepError.OutOfBounds x)) s l q = le_trans (refused-long 6 (omega arith)) (omega arith)

stepped-long : (inflow : List ℤ) (room : ℕ) (x : Decoded) → ((s : State) (t : Timestamp) → x ≡ accepted s t → WithinLimits s × (cells s ≤ program_cells))
    → length (stepped_lines inflow room x) ≤ 30737
stepped-long inflow room (refused r) h = le_trans (refused-long (number r) (two_digits r)) (omega arith)
stepped-long inflow room (accepted s t) h =
    let a = h s t refl in
    let k = step-leaves s (inflow_for s inflow) room a.0 in
    step-long (step_answer s (inflow_for s inflow) room) (step_state s (inflow_for s inflow) room) k.0 (omega (arith, k.1, a.1))

-- what is read of a short input is what the reader accepts
read_by : (long : Bool) (r : Refusal) (x : Decoded) (s : State) (t : Timestamp) → cond long (refused r) x ≡ accepted s t → x ≡ accepted s t
read_by true r x s t h = differ (cc h)
read_by false r x s t h = h

pub program-read : (input rooms : List ℕ) (s : State) (t : Timestamp) → program_read input rooms ≡ accepted s t → decode input rooms ≡ accepted s t
unfolding program_read
program-read input rooms s t h = read_by (leb input_limit (length input)) (Record (length input)) (decode input rooms) s t h

pub output-fits : OutputClaim
unfolding program_output
output-fits input =
    le_trans
    (stepped-long (replicate program_cells (pos 0)) program_work (program_read input (replicate 5 program_cells))
    (λ s t h. let d = decoded-within input (replicate 5 program_cells) s t (program-read input (replicate 5 program_cells) s t h) in (d.0, d.1.0)))
    (omega arith)
