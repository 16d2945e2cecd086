-- The theorems of the comparison speak of this code, by calls of `compare`. Assumes nothing.
use mathlib.Core.Path.{◌≡◌, subst}
use mathlib.Core.Logic.{◌↔◌}
use mathlib.Core.List.{List, []}
use Prim.Native.Nat.{ℕ}
use contract.Lifetimes.{Lfts}
use denote.Triple.Clauses.{AtExit}
use borrow.Fn.Kinds.{Dens, res_t, ended_of}
use Rattle.model.specs.State.{State}
use Rattle.model.specs.Record.{decode, accepted}
use Rattle.model.specs.Promises.{ComparePromise}
use Rattle.model.specs.Claims.{BothAre, swapped}
use Rattle.model.specs.declared.Timestamp.{Timestamp}
use Rattle.std.specs.Prelude.{Ok}
use Rattle.model.specs.Answers.{CompareAnswer}
use Rattle.model.specs.declared.Comparison.TheVariants.{Same}
use Rattle.theorems.specs.Theorems.{theorems}
use Rattle.record_compare.proofs.compare.Kinds as compare-kinds
use Rattle.record_compare.proofs.compare.Reads as compare-reads

-- ---- a call of `compare`, as a caller sees it

pub record CompareCall : Type 0 where
  pub first : List ℕ
  pub second : List ℕ
  pub answer : CompareAnswer
  pub promise : ComparePromise first second answer

-- it is read off `Learnt`: what a caller learns of a call, the function's `ensures` in src/lib.rt as the checker reads it, of the
-- arguments a in the order of the signature, the answer, and the parameters e as the call returns
module _ (κs : Lfts 2) (a : Dens κs compare-kinds.ps) (answer : (res_t compare-kinds.r κs).Denot) (e : AtExit (ended_of 2 compare-kinds.ps compare-kinds.r) κs) where
  abbrev pub compare_call : compare-reads.Learnt κs a answer e → CompareCall
  compare_call told =
      let (first, (second, _)) = a in
      record { first = first.now; second = second.now; answer = answer; promise = told }

-- ---- what it tells

-- same exactly where both records are accepted, with one state and one timestamp
pub same-means : (c : CompareCall) → (c.answer ≡ Ok Same) ↔ BothAre c.first c.second
same-means c = theorems.compare.same c.first c.second c.answer c.promise

-- a call with the records swapped swaps the answer, of two that are accepted
pub swapped-answer : (c d : CompareCall) → d.first ≡ c.second → d.second ≡ c.first → {s t : State} {x y : Timestamp}
    → decode c.first [] ≡ accepted s x → decode c.second [] ≡ accepted t y → d.answer ≡ swapped c.answer
swapped-answer c d p q {s} {t} {x} {y} one two =
    let back = subst (λ l. ComparePromise l c.first d.answer) p (subst (λ l. ComparePromise d.first l d.answer) q d.promise) in
    theorems.compare.swap c.first c.second c.answer d.answer s t x y one two c.promise back

-- ---- the same of the code itself: from what a caller learns of a call, of its own parameters

module _ (κs : Lfts 2) (a : Dens κs compare-kinds.ps) (answer : (res_t compare-kinds.r κs).Denot) (e : AtExit (ended_of 2 compare-kinds.ps compare-kinds.r) κs) where
  pub code-same-means : compare-reads.Learnt κs a answer e → let (first, (second, _)) = a in (answer ≡ Ok Same) ↔ BothAre first.now second.now
  code-same-means told = same-means (compare_call κs a answer e told)
