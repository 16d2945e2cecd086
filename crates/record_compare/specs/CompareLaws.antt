-- What the comparison of two records answers, by what is found in each. Assumes nothing.
use Rattle.std.specs.Prelude.{◌≡◌, List, [], ℕ}
use Rattle.std.proofs.Math.Path.{sym}
use Rattle.std.proofs.Common.{ap, ap₂, ◌∙◌, le-leb, arith, Some}
use Rattle.std.specs.Ordering.{partial_ordering_then, nat_cmp, partial_lt}
use Rattle.std.proofs.lemmas.Bool.Decides.{nat_tests}
use Rattle.grid.specs.Cells.{cells-most}
use Rattle.model.specs.State.{parameters_of, cells}
use Rattle.model.specs.Record.{timestamp_in, judged, accepted, refused, decode, newer, compare_by, compare_answer}
use Rattle.model.specs.Answers.{told_compare}
use Rattle.model.specs.Promises.{ComparePromise}
use Rattle.model.specs.declared.Timestamp.{Timestamp}
use Rattle.model.specs.declared.Refusal.{Refusal}
use Rattle.std.specs.Prelude.{Err}
use Rattle.model.specs.Answers.{CompareAnswer}
use Rattle.model.specs.declared.CompareError.TheVariants.{First, Second}
use Rattle.theorems.specs.Limits.{known-iff}
use Rattle.record_tags.specs.Places.{parts_in}
use Rattle.record_tests.specs.RecordTested.{state_read, Accepted}
use Rattle.record_tests.proofs.OrderLaws.{decoded, rooms-alike}
use Rattle.record_compare.specs.Read.{rooms, BothRead, compared_read}

-- ---- the newer of two timestamps

-- the order that is derived for them, by second and then by millisecond
pub newer_is : (a b : Timestamp) → partial_lt (λ (x y : Timestamp). partial_ordering_then (Some (nat_cmp x.seconds y.seconds)) (Some (nat_cmp x.milliseconds y.milliseconds))) b a ≡ newer a b
unfolding newer
newer_is a b = grind (arith, nat_tests)

-- ---- no destination is lent: a known grid has at most 4096 cells, and an unknown one is refused before the room is tested

no-room-needed : (rec : List ℕ) → decode rec rooms ≡ decode rec []
no-room-needed rec = rooms-alike rec rooms [] (λ s t. let k = (known-iff (parameters_of s)).0 t in rw (le-leb (cells s) 4096 (cells-most k.columns k.rows)))

-- ---- what is found in a record

found_in : {rec : List ℕ} → Accepted rec rooms → decode rec [] ≡ accepted (state_read rec) (timestamp_in (parts_in rec))
found_in {rec} a = sym (no-room-needed rec) ∙ decoded rec rooms a.walks ∙ ap (λ o. judged o (state_read rec) (timestamp_in (parts_in rec))) a.passes

refused-in : (rec : List ℕ) {r : Refusal} → decode rec rooms ≡ refused r → decode rec [] ≡ refused r
refused-in rec e = sym (no-room-needed rec) ∙ e

-- ---- the answer, by what is found in both

module _ {first second : List ℕ} where
  promised : {answer : CompareAnswer} → answer ≡ compare_answer first second → ComparePromise first second answer
  promised e = record { answers = e; tells = ap told_compare e }

  pub first-refused : {r : Refusal} → decode first rooms ≡ refused r → ComparePromise first second (Err (First r))
  unfolding compare_answer
  first-refused e = promised (sym (ap (λ x. compare_by x (decode second [])) (refused-in first e)))

  pub second-refused : {r : Refusal} → Accepted first rooms → decode second rooms ≡ refused r → ComparePromise first second (Err (Second r))
  unfolding compare_answer
  second-refused f e = promised (sym (ap₂ compare_by (found_in f) (refused-in second e)))

  pub both_read : {answer : CompareAnswer} → BothRead first second → answer ≡ compared_read first second → ComparePromise first second answer
  unfolding compare_answer
  both_read b e = promised (e ∙ sym (ap₂ compare_by (found_in b.first_read) (found_in b.second-read)))
