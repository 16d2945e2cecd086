-- From what the reader leaves, and what a step of it leaves, to the program's promise. Assumes nothing.
use Rattle.std.specs.Prelude.{◌≡◌, refl, List, [], ◌∷◌, ◌++◌, ℕ, ◌≤◌, ◌<◌, ℤ, pos, length, take, replicate}
use Rattle.std.proofs.Common.{sym, ap₂, ◌∙◌, zero-add, arith, length-take, le-leb}
use Rattle.std.proofs.Math.Path.{ap, subst}
use Rattle.std.proofs.Math.Bool.{cond}
use Rattle.std.proofs.Math.Nat.{min-eq_left}
use Rattle.std.proofs.lemmas.List.{length-replicate}
use Rattle.std.proofs.lemmas.List.Edits.{sets-eq}
use Rattle.std.proofs.Math.Seq.{length-sets}
use Rattle.std.proofs.lemmas.Bool.{lt-leb}
use Rattle.model.specs.Grid.{filled}
use Rattle.model.specs.State.{State, Fields, state_from, parameters_of, cells, WithinLimits}
use Rattle.model.specs.Answers.{number}
use Rattle.model.specs.Step.{step_test, step_answer, step_state, work_left}
use Rattle.model.specs.Record.{Decoded, accepted, refused, decode}
use Rattle.model.specs.Promises.{read_answer, rooms_in, put, read_into, read_of, ReadPromise}
use Rattle.model.specs.Program.{Printed, refused_line, step_lines, stepped_lines, input_limit, program_read, program_cells, program_work, output_room, program_output, ProgramLeaves, ProgramPromise}
use Rattle.model.specs.declared.Parameters.{Parameters}
use Rattle.model.specs.declared.Timestamp.{Timestamp}
use Rattle.model.specs.declared.Refusal.{Refusal}
use Rattle.model.specs.declared.Refusal.TheVariants.{Record}
use Rattle.std.specs.Prelude.{Ok, Err}
use Rattle.model.specs.Answers.{ReadAnswer, header}
use Rattle.grid.specs.CellFields.{take-filled, drop-filled}
use Rattle.theorems.specs.Truth.{differ}
use Rattle.theorems.specs.RoundTrip.{bars-long, put-there}
use Rattle.theorems.specs.Stepping.{step_keeps}
use Rattle.theorems.specs.Rewrite.{decoded-within, read-within}
use Rattle.theorems.specs.Output.{output-fits}
use Rattle.text.specs.declared.Sink.{Sink}
use Rattle.text.specs.Sink.{puts}
use Rattle.program.specs.Stepped.{Ready, SteppedParts, count}

-- what is put to a sink that was lent a slice is printed over it
abbrev pub Shown : List ℕ → ℕ → List ℕ → Sink → Sink → Type 0
Shown out r out' lent left = (l : List ℕ) → left ≡ puts l lent → Printed l out r out'

-- ---- what is read

-- fields with other depths and velocities
abbrev pub flowed : Fields → (h u v : List ℤ) → Fields
flowed d h u v = record { h = h; b = d.b; u = u; v = v; barriers = d.barriers }

room : {A : Type 0} (m : ℕ) (l : List A) → length (take m l) ≡ m → m ≤ length l
room m l e = omega (arith, length-take m l, e)

-- the state read stands in the first places, and behind them what was there: so a step of it is the program's
module _ (s : State) (l : WithinLimits s) (d : Fields) where
  -- a field that a step has filled, over one that the reader had filled
  over : {A : Type 0} {x y z : List A} (f e : List A) → length f ≡ cells s → x ≡ filled (cells s) y (filled (cells s) f e) → y ≡ z → x ≡ filled (cells s) z e
  over f e h p q = p ∙ ap₂ ◌++◌ q (drop-filled (cells s) f e h)

  stepped-whole : {inflow work : List ℤ} {out : List ℕ} {r : ℕ} {h₂ u₂ v₂ work' : List ℤ} {out' : List ℕ} (t : Timestamp) {lent left : Sink}
      → Shown out r out' lent left → SteppedParts (parameters_of s) (put s d) inflow work lent h₂ u₂ v₂ work' left
      → ProgramLeaves (accepted s t) d inflow work out r (flowed (put s d) h₂ u₂ v₂) work' out'
  stepped-whole {inflow} {work} {out} {r} {out' = out'} t shown z =
      let i = take (cells s) inflow in
      let m = length work in
      let e = put-there s l d in
      let steps = z.steps ∙ ap (λ x. step_state x i m) e in
      record {
        prints = subst (λ x. Printed x out r out') (ap₂ step_lines (ap (λ x. step_answer x i m) e) steps) (shown _ z.prints);
        fills = (λ j. record {
          h = over s.h d.h l.depths.long z.fills-h (ap (λ x. x.h) steps) j;
          b = filled (cells s) s.b d.b;
          u = over s.u d.u l.us.long z.fills-u (ap (λ x. x.u) steps) j;
          v = over s.v d.v l.vs.long z.fills-v (ap (λ x. x.v) steps) j;
          barriers = filled (cells s) s.barriers d.barriers;
        }) ∙ ap (λ x. put x d) (sym (step_keeps s i m));
        clears = z.clears ∙ ap (λ x. work_left (step_test x i m) x work) e;
      }

module _ {input : List ℕ} {d : Fields} {a : ReadAnswer} {d' : Fields} (q : ReadPromise input d a d') where
  -- an accepted record's state may be stepped
  pub read-ready : {p : Parameters} {t : Timestamp} → a ≡ (Ok (header p t)) → Ready p d'
  read-ready {p} {t} e =
      let l = read-within input d d' p t (subst (λ x. ReadPromise input d x d') e q) in
      record {
        inside = l;
        room-h = room (count p) d'.h l.depths.long;
        room-b = room (count p) d'.b l.bottoms.long;
        room-u = room (count p) d'.u l.us.long;
        room-v = room (count p) d'.v l.vs.long;
        room-barriers = room (count p) d'.barriers (bars-long (state_from p d') l);
      }

  -- an input that is short enough is what the reader makes of it
  shortly : length input < input_limit → program_read input (rooms_in d) ≡ read_of input d
  unfolding program_read read_of
  shortly l = ap (λ t. cond t (refused (Record (length input))) (decode input (rooms_in d))) (lt-leb input_limit (length input) l)

  module _ {inflow work : List ℤ} {out : List ℕ} {r : ℕ} {out' : List ℕ} where
    refused-by : (x : Decoded) {y : Refusal} {n : ℕ} → read_of input d ≡ x → a ≡ (Err y) → n ≡ number y → Printed (refused_line n) out r out'
        → ProgramLeaves x d inflow work out r d' work out'
    refused-by (accepted s t) o e m z = differ (cc (sym e ∙ q.answers ∙ ap read_answer o))
    refused-by (refused y') {y} o e m z =
        let same : y ≡ y' = cc (sym e ∙ q.answers ∙ ap read_answer o) in
        record { prints = subst (λ k. Printed (refused_line k) out r out') (m ∙ ap number same) z; fills = q.fills ∙ ap (λ x. read_into x d) o; clears = refl }

    pub program-refused : {y : Refusal} {n : ℕ} → length input < input_limit → a ≡ (Err y) → n ≡ number y → Printed (refused_line n) out r out'
        → ProgramPromise input d inflow work out r d' work out'
    program-refused l e m z = subst (λ x. ProgramLeaves x d inflow work out r d' work out') (sym (shortly l)) (refused-by (read_of input d) refl e m z)

    module _ {p : Parameters} {t : Timestamp} {h₂ u₂ v₂ work' : List ℤ} {lent left : Sink} (shown : Shown out r out' lent left) where
      stepped_by : (x : Decoded) → read_of input d ≡ x → a ≡ (Ok (header p t)) → SteppedParts p d' inflow work lent h₂ u₂ v₂ work' left
          → ProgramLeaves x d inflow work out r (flowed d' h₂ u₂ v₂) work' out'
      unfolding read_of
      stepped_by (refused y) o e z = differ (cc (sym e ∙ q.answers ∙ ap read_answer o))
      stepped_by (accepted s t') o e z =
          let told : header p t ≡ header (parameters_of s) t' = cc (sym e ∙ q.answers ∙ ap read_answer o) in
          let same : p ≡ parameters_of s = ap (λ x. x.parameters) told in
          let f : d' ≡ put s d = q.fills ∙ ap (λ x. read_into x d) o in
          subst (λ x. ProgramLeaves (accepted s t') d inflow work out r (flowed x h₂ u₂ v₂) work' out') (sym f)
          (stepped-whole s (decoded-within input (rooms_in d) s t' o).0 d t' shown
          (subst (λ x. SteppedParts (parameters_of s) x inflow work lent h₂ u₂ v₂ work' left) f (subst (λ y. SteppedParts y d' inflow work lent h₂ u₂ v₂ work' left) same z)))

      pub program-stepped : length input < input_limit → a ≡ (Ok (header p t)) → SteppedParts p d' inflow work lent h₂ u₂ v₂ work' left
          → ProgramPromise input d inflow work out r (flowed d' h₂ u₂ v₂) work' out'
      program-stepped l e z = subst (λ x. ProgramLeaves x d inflow work out r (flowed d' h₂ u₂ v₂) work' out') (sym (shortly l)) (stepped_by (read_of input d) refl e z)

-- an input that is too long is a 7
pub program-long : (input : List ℕ) (d : Fields) {inflow work : List ℤ} {out : List ℕ} {r : ℕ} {out' : List ℕ} → input_limit ≤ length input
    → Printed (refused_line 7) out r out' → ProgramPromise input d inflow work out r d work out'
unfolding program_read
program-long input d {inflow} {work} {out} {r} {out'} l z =
    let long : program_read input (rooms_in d) ≡ refused (Record (length input))
    = ap (λ t. cond t (refused (Record (length input))) (decode input (rooms_in d))) (le-leb input_limit (length input) l) in
    subst (λ x. ProgramLeaves x d inflow work out r d work out') (sym long) (record { prints = z; fills = refl; clears = refl })

-- ---- the program's own arrays

-- zeros are lent: their number is all that counts
abbrev zeros : ℕ → Fields
zeros m = record { h = replicate m (pos 0); b = replicate m (pos 0); u = replicate m (pos 0); v = replicate m (pos 0); barriers = replicate m 0 }

over_zeros : (m n : ℕ) (input : List ℕ) {out : List ℕ} {r : ℕ} {d' : Fields} {work' : List ℤ} {out' : List ℕ}
    → ProgramPromise input (zeros m) (replicate m (pos 0)) (replicate n (pos 0)) out r d' work' out'
    → Printed (stepped_lines (replicate m (pos 0)) n (program_read input (replicate 5 m))) out r out'
over_zeros m n input {out} {r} {out' = out'} q =
    let field = replicate m (pos 0) in
    let rooms : rooms_in (zeros m) ≡ replicate 5 m = ap₂ (λ j k. j ∷ j ∷ j ∷ j ∷ k ∷ []) (length-replicate m (pos 0)) (length-replicate m 0) in
    subst (λ k. Printed (stepped_lines field k (program_read input (replicate 5 m))) out r out') (length-replicate n (pos 0))
    (subst (λ l. Printed (stepped_lines field (length (replicate n (pos 0))) (program_read input l)) out r out') rooms q.prints)

pub own-arrays : (input : List ℕ) {out : List ℕ} {r : ℕ} {d' : Fields} {work' : List ℤ} {out' : List ℕ}
    → ProgramPromise input (zeros program_cells) (replicate program_cells (pos 0)) (replicate program_work (pos 0)) out r d' work' out'
    → Printed (program_output input) out r out'
unfolding program_output
own-arrays input q = over_zeros program_cells program_work input q

-- a slice that has room for all that the program prints holds all of it
pub whole-text : (input : List ℕ) {entry : List ℕ} {r : ℕ} {exit : List ℕ} → length entry ≡ output_room → Printed (program_output input) entry r exit
    → (r ≤ length exit) × (take r exit ≡ program_output input)
whole-text input {entry} {r} {exit} e q =
    let text = program_output input in
    let fits : length text ≤ length entry = omega (arith, output-fits input, e) in
    let counted : r ≡ length text = q.counts ∙ min-eq_left fits in
    let held : exit ≡ filled (length text) text entry = q.holds ∙ rw (zero-add (length text)) at (sets-eq text entry 0 (omega (arith, fits))) in
    let long : length exit ≡ length entry = ap length q.holds ∙ length-sets entry 0 text in
    (omega (arith, counted, long, fits), ap₂ take counted held ∙ take-filled (length text) text entry refl)
