-- The theorems of the record speak of the C interface: of what `basin_write`, `basin_read` and `basin_compare` return, tell and leave.
-- Assumes nothing.
use mathlib.Core.Path.{◌≡◌, refl, sym, ap, subst, ◌∙◌}
use mathlib.Core.Logic.{◌↔◌, ◌⊎◌, inl, inr}
use mathlib.Core.List.{List, [], ◌∷◌}
use native.Mathlib.Omega.{arith}
use contract.Lifetimes.{Lfts}
use denote.Triple.Clauses.{AtExit}
use borrow.Fn.Kinds.{Dens, res_t, ended_of}
use Prim.Native.Nat.{ℕ, ◌^◌, ◌≤◌, ◌<◌}
use lib.Dec.{T}
use lib.IntN.{ℤ, pos}
use lib.ListN.{length, take, get_or}
use Rattle.model.specs.Numbers.{most_milliseconds}
use Rattle.model.specs.Answers.{write_numbers, read_numbers, constants_in, compare_numbers}
use Rattle.model.specs.State.{State, state_from, parameters_of, cells, WithinLimits}
use Rattle.model.specs.Record.{Part, record_length, rising, restored, kept, Decoded, decode, accepted, refused}
use Rattle.model.specs.Promises.{rooms_in, ReadPromise, WritePromise, ComparePromise}
use Rattle.model.specs.Claims.{EachRoom, Among, WholeIn, Bytes, BothAre, Later, swapped}
use Rattle.model.specs.declared.Parameters.{Parameters}
use Rattle.model.specs.declared.Timestamp.{Timestamp}
use Rattle.model.specs.declared.Refusal.{Refusal}
use Rattle.std.specs.Prelude.{Ok, Err}
use Rattle.model.specs.Answers.{CompareAnswer, ReadAnswer, header}
use Rattle.model.specs.declared.Comparison.TheVariants.{Same, FirstNewer, SecondNewer, Conflict}
use Rattle.model.specs.declared.CompareError.TheVariants.{First, Second}
use Rattle.theorems.specs.Theorems.{theorems}
use Rattle.theorems.specs.Truth.{◌⟫◌}
use Rattle.answers.specs.Told.{eight, or_kept}
use Rattle.basin.specs.FromC.{parameters, timestamp}
use Rattle.basin.proofs.Applied.{from_one}
use Rattle.basin.proofs.basin_compare.Kinds as compare-kinds
use Rattle.basin.proofs.basin_compare.Reads as compare-reads
use Rattle.basin.proofs.Calls.{WriteCall, ReadCall, CompareCall, compare_call}

-- ---- write, then read

-- a state within the limits comes back, with its parameters and its timestamp: both calls return 0
pub record CameBack (w : WriteCall) (g : ReadCall) : Type 0 where
  pub written : w.returned ≡ 0
  pub read : g.returned ≡ 0
  pub told : let s = w.state in g.answer ≡ 0 ∷ s.w ∷ s.n ∷ s.kind ∷ w.timestamp.seconds ∷ w.timestamp.milliseconds ∷ 0 ∷ 0 ∷ []
  pub constants : let s = w.state in g.constants' ≡ s.G ∷ s.c ∷ s.R ∷ []
  pub fields : state_from (parameters_of w.state) g.d' ≡ w.state

pub write-then-read : (w : WriteCall) (g : ReadCall)
    → WithinLimits w.state → w.timestamp.seconds < 2 ^ 64 → w.timestamp.milliseconds ≤ most_milliseconds
    → record_length w.state ≤ length w.bytes → EachRoom (cells w.state) (rooms_in g.d)
    → g.bytes ≡ take (record_length w.state) w.bytes'
    → CameBack w g
write-then-read w g l q ms room fit same =
    let s = w.state in
    let p = subst (λ bytes. ReadPromise bytes g.d g.told.answer g.d') same g.told.promise in
    let y = theorems.write-then-read s w.timestamp w.bytes w.bytes' w.told.answer g.d g.d' g.told.answer l q ms room w.told.promise fit p in
    record {
      written = w.told.told.returns ∙ ap (λ a. get_or (write_numbers a) 0 0) y.0;
      read = g.told.told.returns ∙ ap (λ a. get_or (read_numbers a) 0 0) y.1;
      told = g.told.told.holds ∙ ap (λ a. eight (read_numbers a)) y.1;
      constants = g.told.holds ∙ ap (λ a. or_kept (constants_in a) g.constants) y.1;
      fields = y.2;
    }

-- ---- read, then write

-- the state that a read tells and leaves: w, n and kind are told after the 0, and seconds and milliseconds after these
abbrev pub read_state : ReadCall → State
read_state g =
    let w = get_or g.answer 1 0 in
    let n = get_or g.answer 2 0 in
    let kind = get_or g.answer 3 0 in
    let constant : ℕ → ℤ = λ k. get_or g.constants' k (pos 0) in
    state_from (parameters w n kind (constant 0) (constant 1) (constant 2)) g.d'

abbrev pub read_timestamp : ReadCall → Timestamp
read_timestamp g = timestamp (get_or g.answer 4 0) (get_or g.answer 5 0)

record WasRead (g : ReadCall) : Type 0 where
  p : Parameters
  t : Timestamp
  answers : g.told.answer ≡ Ok (header p t)
  stamp : read_timestamp g ≡ t
  state : read_state g ≡ state_from p g.d'

was_read : (g : ReadCall) → g.returned ≡ 0 → WasRead g
was_read g z = by g.told.answer refl (sym g.told.told.returns ∙ z)
  where
    by : (x : ReadAnswer) → g.told.answer ≡ x → get_or (read_numbers x) 0 0 ≡ 0 → WasRead g
    by (Ok x) e n =
        let a = g.told.told.holds ∙ ap (λ x. eight (read_numbers x)) e in
        let k = g.told.holds ∙ ap (λ x. or_kept (constants_in x) g.constants) e in
        record { p = x.parameters; t = x.timestamp; answers = e; stamp = rw a; state = rw (a, k) }
    by (Err r) e n = absurd (omega (arith, from_one r, n))

-- an accepted record: the writer makes of what is read its fields by rising tag, and zeros for each that it lacks; where its tags rise,
-- its own bytes come first, up to the first field that it lacks
pub read-then-write : (g : ReadCall) (w : WriteCall)
    → Bytes g.bytes → g.returned ≡ 0 → w.state ≡ read_state g → w.timestamp ≡ read_timestamp g → length (restored g.bytes) ≤ length w.bytes
    → (w.returned ≡ 0) × (take (length (restored g.bytes)) w.bytes' ≡ restored g.bytes)
    × (T (rising g.bytes) → take (kept g.bytes) w.bytes' ≡ take (kept g.bytes) g.bytes)
read-then-write g w bytes z state stamp room =
    let r = was_read g z in
    let read = subst (λ x. ReadPromise g.bytes g.d x g.d') r.answers g.told.promise in
    let written = subst (λ s. WritePromise s r.t w.bytes w.told.answer w.bytes') (state ∙ r.state) (subst (λ t. WritePromise w.state t w.bytes w.told.answer w.bytes') (stamp ∙ r.stamp) w.told.promise) in
    let y = theorems.read-then-write g.bytes w.bytes w.bytes' g.d g.d' r.p r.t w.told.answer bytes read written room in
    (w.told.told.returns ∙ ap (λ a. get_or (write_numbers a) 0 0) y.0, y.1, y.2)

-- so all bytes of a record come back whose tags rise, if it has both tags that it may lack
pub own-bytes-return : (g : ReadCall) (w : WriteCall) (parts : List Part)
    → Bytes g.bytes → WholeIn g.bytes parts → T (rising g.bytes) → Among 8 parts → Among 9 parts
    → g.returned ≡ 0 → w.state ≡ read_state g → w.timestamp ≡ read_timestamp g → length g.bytes ≤ length w.bytes
    → (w.returned ≡ 0) × (take (length g.bytes) w.bytes' ≡ g.bytes)
own-bytes-return g w parts bytes whole rises eighth ninth z state stamp room =
    let e = ((theorems.restored g.bytes parts bytes whole rises).whole eighth ninth).0 in
    let n = ap length e in
    let x = read-then-write g w bytes z state stamp (subst (λ k. k ≤ length w.bytes) (sym n) room) in
    (x.0, ap (λ k. take k w.bytes') (sym n) ∙ x.1 ∙ e)

-- ---- comparison

-- what is told with the 0: 0 same, 1 first newer, 2 second newer, 3 conflict
abbrev pub result : CompareCall → ℕ
result c = get_or c.answer 1 0

-- the numbers leave one answer possible
record Is (c : CompareCall) (a : CompareAnswer) : Type 0 where
  returns : c.returned ≡ get_or (compare_numbers a) 0 0
  tells : result c ≡ get_or (eight (compare_numbers a)) 1 0

is : (c : CompareCall) {a : CompareAnswer} → c.told.answer ≡ a → Is c a
is c e = record { returns = c.told.told.returns ∙ ap (λ a. get_or (compare_numbers a) 0 0) e; tells = ap (λ l. get_or l 1 0) (c.told.told.holds ∙ ap (λ a. eight (compare_numbers a)) e) }

-- same exactly where both records are accepted, with one state and one timestamp
pub same-means : (c : CompareCall) → ((c.returned ≡ 0) × (result c ≡ 0)) ↔ BothAre c.first c.second
same-means c =
    let means = theorems.compare.same c.first c.second c.told.answer c.told.promise in
    (λ t. means.0 (by c.told.answer (is c refl) t.0 t.1), λ both. let s = is c (means.1 both) in (s.returns, s.tells))
  where
    by : (a : CompareAnswer) → Is c a → c.returned ≡ 0 → result c ≡ 0 → a ≡ Ok Same
    by (Ok Same) s n k = refl
    by (Ok FirstNewer) s n k = absurd (omega (arith, s.tells, k))
    by (Ok SecondNewer) s n k = absurd (omega (arith, s.tells, k))
    by (Ok Conflict) s n k = absurd (omega (arith, s.tells, k))
    by (Err (First r)) s n k = absurd (omega (arith, from_one r, s.returns, n))
    by (Err (Second r)) s n k = absurd (omega (arith, from_one r, s.returns, n))

-- an accepted record is not a refused one
abbrev refusals : Decoded → ℕ
refusals (accepted x y) = 0
refusals (refused r) = 1

accepted-not-refused : {d : Decoded} {r : Refusal} {x : State} {y : Timestamp} → d ≡ accepted x y → d ≡ refused r → ⊥
accepted-not-refused e f = omega (arith, ap refusals (sym e ∙ f))

-- two accepted records: 1 exactly where the first has the later timestamp, 2 where the second has, 3 where they have one and differ
pub record Ordered (c : CompareCall) (s t : State) (x y : Timestamp) : Type 0 where
  pub returns : c.returned ≡ 0
  pub first-newer : (result c ≡ 1) ↔ Later x y
  pub second-newer : (result c ≡ 2) ↔ Later y x
  pub conflict : (result c ≡ 3) ↔ ((x ≡ y) × (s ≡ t → ⊥))

-- the answers apart
abbrev place : CompareAnswer → ℕ
place (Ok Same) = 0
place (Ok FirstNewer) = 1
place (Ok SecondNewer) = 2
place (Ok Conflict) = 3
place (Err (First r)) = 4
place (Err (Second r)) = 5

pub ordered : (c : CompareCall) {s t : State} {x y : Timestamp} → decode c.first [] ≡ accepted s x → decode c.second [] ≡ accepted t y → Ordered c s t x y
ordered c {s} {t} {x} {y} one two =
    let told = theorems.compare.newer c.first c.second c.told.answer s t x y one two c.told.promise in
    let n = by c.told.answer refl in
    record {
      returns = n.0;
      first-newer = n.1 ⟫ told.0;
      second-newer = n.2 ⟫ told.1;
      conflict = n.3 ⟫ told.2;
    }
  where
    other : (a b : CompareAnswer) → result c ≡ place a → (place a ≡ place b → ⊥) → (result c ≡ place b) ↔ (a ≡ b)
    other a b tells apart = (λ r. absurd (apart (sym tells ∙ r)), λ q. absurd (apart (ap place q)))

    by : (a : CompareAnswer) → c.told.answer ≡ a → (c.returned ≡ 0) × ((result c ≡ 1) ↔ (a ≡ Ok FirstNewer)) × ((result c ≡ 2) ↔ (a ≡ Ok SecondNewer)) × ((result c ≡ 3) ↔ (a ≡ Ok Conflict))
    by (Ok Same) e = let n = is c e in (n.returns, other (Ok Same) (Ok FirstNewer) n.tells (λ q. omega (arith, q)), other (Ok Same) (Ok SecondNewer) n.tells (λ q. omega (arith, q)), other (Ok Same) (Ok Conflict) n.tells (λ q. omega (arith, q)))
    by (Ok FirstNewer) e = let n = is c e in (n.returns, (λ r. refl, λ q. n.tells), other (Ok FirstNewer) (Ok SecondNewer) n.tells (λ q. omega (arith, q)), other (Ok FirstNewer) (Ok Conflict) n.tells (λ q. omega (arith, q)))
    by (Ok SecondNewer) e = let n = is c e in (n.returns, other (Ok SecondNewer) (Ok FirstNewer) n.tells (λ q. omega (arith, q)), (λ r. refl, λ q. n.tells), other (Ok SecondNewer) (Ok Conflict) n.tells (λ q. omega (arith, q)))
    by (Ok Conflict) e = let n = is c e in (n.returns, other (Ok Conflict) (Ok FirstNewer) n.tells (λ q. omega (arith, q)), other (Ok Conflict) (Ok SecondNewer) n.tells (λ q. omega (arith, q)), (λ r. refl, λ q. n.tells))
    by (Err (First r)) e = absurd (accepted-not-refused one ((theorems.compare.first-refused c.first c.second c.told.answer r c.told.promise).0 e))
    by (Err (Second r)) e = absurd (accepted-not-refused two ((theorems.compare.second-refused c.first c.second c.told.answer r s x one c.told.promise).0 e))

-- and swapped with the records, of two that are accepted: 1 for 2, and 0 and 3 as they are
pub record Swapped (c d : CompareCall) : Type 0 where
  pub both : (c.returned ≡ 0) × (d.returned ≡ 0)
  pub results : ((result c ≡ 0) × (result d ≡ 0)) ⊎ ((result c ≡ 1) × (result d ≡ 2)) ⊎ ((result c ≡ 2) × (result d ≡ 1)) ⊎ ((result c ≡ 3) × (result d ≡ 3))

pub swapped-result : (c d : CompareCall) → d.first ≡ c.second → d.second ≡ c.first → {s t : State} {i j : Timestamp}
    → decode c.first [] ≡ accepted s i → decode c.second [] ≡ accepted t j → Swapped c d
swapped-result c d p q {s} {t} {i} {j} one two =
    let back = subst (λ l. ComparePromise l c.first d.told.answer) p (subst (λ l. ComparePromise d.first l d.told.answer) q d.told.promise) in
    by c.told.answer refl (theorems.compare.swap c.first c.second c.told.answer d.told.answer s t i j one two c.told.promise back)
  where
    by : (a : CompareAnswer) → c.told.answer ≡ a → d.told.answer ≡ swapped c.told.answer → Swapped c d
    by (Ok Same) e b = let x = is c e in let y = is d (b ∙ ap swapped e) in record { both = (x.returns, y.returns); results = inl (x.tells, y.tells) }
    by (Ok FirstNewer) e b = let x = is c e in let y = is d (b ∙ ap swapped e) in record { both = (x.returns, y.returns); results = inr (inl (x.tells, y.tells)) }
    by (Ok SecondNewer) e b = let x = is c e in let y = is d (b ∙ ap swapped e) in record { both = (x.returns, y.returns); results = inr (inr (inl (x.tells, y.tells))) }
    by (Ok Conflict) e b = let x = is c e in let y = is d (b ∙ ap swapped e) in record { both = (x.returns, y.returns); results = inr (inr (inr (x.tells, y.tells))) }
    by (Err (First r)) e b = absurd (accepted-not-refused one ((theorems.compare.first-refused c.first c.second c.told.answer r c.told.promise).0 e))
    by (Err (Second r)) e b = absurd (accepted-not-refused two ((theorems.compare.second-refused c.first c.second c.told.answer r s i one c.told.promise).0 e))

-- ---- the same of the code itself: from what a caller learns of a call, of its own parameters

module _ (κs : Lfts 3) (a : Dens κs compare-kinds.ps) (returned : (res_t compare-kinds.r κs).Denot) (e : AtExit (ended_of 3 compare-kinds.ps compare-kinds.r) κs) where
  pub code-same-means : compare-reads.Learnt κs a returned e
      → let (first, (second, _)) = a in
      let (_, (_, (answer, _))) = e in
      ((returned ≡ 0) × (get_or answer.now 1 0 ≡ 0)) ↔ BothAre first.now second.now
  code-same-means told = same-means (compare_call κs a returned e told)
