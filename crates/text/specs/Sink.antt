-- Text put into a lent slice of bytes, as far as there is room. Assumes nothing.
use Rattle.std.specs.Prelude.{◌≡◌, refl, Bool, true, false, cond, List, [], ◌∷◌, ◌++◌, ℕ, suc, ◌+◌, ◌≤◌, ◌<◌, min, ltb, length, set}
use Rattle.std.specs.Borrow.{MutBor}
use Rattle.std.proofs.Common.{sym, ap, ap₂, subst, ◌∙◌, zero-le, zero-add, add-one, arith, length-set, lt-ltb, le-ltb, ltb-true, ltb-false}
use Rattle.std.proofs.lemmas.List.Edits.{sets}
use Rattle.std.proofs.Math.Seq.{set_out}
use Rattle.model.specs.Program.{Printed}
use Rattle.text.specs.declared.Sink.{Sink}

-- a lent slice with these bytes, and the place where the next one goes
abbrev pub sink : MutBor (List ℕ) → ℕ → List ℕ → Sink
sink out k d = record { out = record out { now = d }; at = k }

-- ... as it is lent
abbrev pub front : MutBor (List ℕ) → Sink
front out = record { out = out; at = 0 }

-- a byte, where there is room
abbrev pub put : ℕ → Sink → Sink
put x s = cond (ltb s.at (length s.out.now)) (sink s.out (s.at + 1) (set s.out.now s.at x)) s

abbrev pub puts : List ℕ → Sink → Sink
puts [] s = s
puts (x ∷ l) s = puts l (put x s)

module _ (x k : ℕ) (d : List ℕ) (out : MutBor (List ℕ)) where
  pub put-room : k < length d → put x (sink out k d) ≡ sink out (k + 1) (set d k x)
  put-room h = ap (λ t. cond t (sink out (k + 1) (set d k x)) (sink out k d)) (lt-ltb k (length d) h)

  pub put_full : length d ≤ k → put x (sink out k d) ≡ sink out k d
  put_full h = ap (λ t. cond t (sink out (k + 1) (set d k x)) (sink out k d)) (le-ltb k (length d) h)

-- a text, and another after it
pub puts-append : (a b : List ℕ) (s : Sink) → puts (a ++ b) s ≡ puts b (puts a s)
puts-append [] b s = refl
puts-append (x ∷ a) b s = puts-append a b (put x s)

pub ruleset putting = (puts-append)

-- the same of slices that are known to be such
pub follows : (a b : List ℕ) (s : Sink) {t e : Sink} → t ≡ puts a s → e ≡ puts b t → e ≡ puts (a ++ b) s
follows a b s p q = q ∙ ap (puts b) p ∙ sym (puts-append a b s)

-- ---- from the front: what is printed

sets-full : (l d : List ℕ) (k : ℕ) → length d ≤ k → sets d k l ≡ d
sets-full [] d k h = refl
sets-full (x ∷ l) d k h = ap (λ e. sets e (suc k) l) (set_out d k x h) ∙ sets-full l d (suc k) (omega arith)

module _ (out : MutBor (List ℕ)) where
  puts-full : (l d : List ℕ) (k : ℕ) → length d ≤ k → puts l (sink out k d) ≡ sink out k d
  puts-full [] d k h = refl
  puts-full (x ∷ l) d k h = ap (puts l) (put_full x k d out h) ∙ puts-full l d k h

  -- a text from place k on: as many bytes as there is room for
  abbrev Lands : List ℕ → Type 0
  Lands l = (d : List ℕ) (k : ℕ) → k ≤ length d → puts l (sink out k d) ≡ sink out (min (k + length l) (length d)) (sets d k l)

  lands-more : (x : ℕ) (l : List ℕ) → Lands l → (d : List ℕ) (k : ℕ) (room : Bool) → ltb k (length d) ≡ room → k ≤ length d
      → puts l (put x (sink out k d)) ≡ sink out (min (k + suc (length l)) (length d)) (sets (set d k x) (suc k) l)
  lands-more x l more d k true e h =
      let p = ltb-true k (length d) e in
      ap (puts l) (put-room x k d out p)
      ∙ more (set d k x) (k + 1) (subst (λ m. k + 1 ≤ m) (sym (length-set d k x)) (omega arith))
      ∙ ap₂ (λ m j. sink out m (sets (set d k x) j l)) (ap (λ n. min (k + 1 + length l) n) (length-set d k x) ∙ same (length l) (length d)) (add-one k)
    where
      same : (n m : ℕ) → min (k + 1 + n) m ≡ min (k + suc n) m
      same n m = omega arith
  lands-more x l more d k false e h =
      let p = ltb-false k (length d) e in
      ap (puts l) (put_full x k d out p)
      ∙ puts-full l d k p
      ∙ ap₂ (sink out) (at-end (length l) (length d) h p) (sym (ap (λ e. sets e (suc k) l) (set_out d k x p) ∙ sets-full l d (suc k) (omega arith)))
    where
      at-end : (n m : ℕ) → k ≤ m → m ≤ k → k ≡ min (k + suc n) m
      at-end n m a b = omega arith

  lands : (l : List ℕ) → Lands l
  lands [] d k h = ap (λ m. sink out m d) (whole (length d) h)
    where
      whole : (m : ℕ) → k ≤ m → k ≡ min (k + 0) m
      whole m h = omega arith
  lands (x ∷ l) d k h = lands-more x l (lands l) d k (ltb k (length d)) refl h

-- what a sink has put, once the slice that was lent to it is back
pub printed : (l : List ℕ) {out : MutBor (List ℕ)} {s t : Sink} {r : ℕ} {d' : List ℕ} → s ≡ front out → t ≡ puts l s → r ≡ t.at → (out.ghost_name ≡ t.out.ghost_name → d' ≡ t.out.now)
    → Printed l out.now r d'
printed l {out = out} start h c back =
    let e = h ∙ ap (puts l) start ∙ lands out l out.now 0 zero-le in
    record {
      counts = c ∙ ap (λ s. s.at) e ∙ ap (λ m. min m (length out.now)) (zero-add (length l));
      holds = back (sym (ap (λ s. s.out.ghost_name) e)) ∙ ap (λ s. s.out.now) e;
    }
