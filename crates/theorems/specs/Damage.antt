-- A record is damaged exactly where its walk gets to a bad tag, or to the record's end with a tag missing. Assumes nothing.
use Rattle.std.specs.Prelude.{◌≡◌, refl, ◌↔◌, Bool, true, false, List, [], ◌∷◌, ◌++◌, ℕ, zero, suc, ◌+◌, ◌≤◌, ◌<◌, leb, length}
use Rattle.std.proofs.Common.{sym, ap, subst, ◌∙◌, inl, inr, ⊎_elim, zero-le, le_refl, arith, leb-true, leb-false}
use Rattle.std.specs.Prelude.{Some}
use Rattle.std.proofs.lemmas.Bool.{lt-leb}
use Rattle.model.specs.Record.{Part, size_at, part_at, tag_test, Walked, damaged, whole, unless, walk, walked}
use Rattle.model.specs.Claims.{BadTag, Reaches, outset, past, Damaged, WholeIn}
use Rattle.model.specs.declared.Refusal.{Refusal}
use Rattle.model.specs.declared.Refusal.TheVariants.{Record}
use Rattle.theorems.specs.Walks.{sound-iff, at_end, walk_step, walk_end}
use Rattle.theorems.specs.TagLaws.{told, untold, tag-judged, end-judged, none-missing}

-- ---- what the walk tells is so

abbrev Tells : List ℕ → Walked → Type 0
Tells rec (damaged r) = Damaged rec r
Tells rec (whole parts) = WholeIn rec parts

walk-stop : (rec : List ℕ) (m k : ℕ) (parts : List Part) (r : Refusal) → leb (length rec) k ≡ false → tag_test rec k parts ≡ Some r → walk rec (suc m) k parts ≡ damaged r
unfolding walk
walk-stop rec m k parts r a b = rw (a, b)

tells-end : (rec : List ℕ) (k : ℕ) (parts : List Part) → Reaches rec k parts → k ≡ length rec → Tells rec (at_end rec parts)
tells-end rec k parts h e =
    let h' = subst (λ k. Reaches rec k parts) e h in
    ⊎_elim
    (λ p. subst (λ o. Tells rec (unless o (whole parts))) (sym p.0) (inr (parts, h', p.1, refl)))
    (λ p. subst (λ o. Tells rec (unless o (whole parts))) (sym p.0) (h', p.1))
    (end-judged rec parts)

-- by the tests at offset k
tells-by : (rec : List ℕ) (m k : ℕ) (parts : List Part) → Reaches rec k parts → k ≤ length rec
    → (Reaches rec (k + 3 + size_at rec k) (parts ++ (part_at rec k ∷ [])) → k + 3 + size_at rec k ≤ length rec → Tells rec (walk rec m (k + 3 + size_at rec k) (parts ++ (part_at rec k ∷ []))))
    → (b : Bool) → leb (length rec) k ≡ b → Tells rec (walk rec (suc m) k parts)
tells-by rec m k parts h l ih true p =
    let g = leb-true (length rec) k p in
    subst (Tells rec) (sym (walk_end rec (suc m) k parts g)) (tells-end rec k parts h (omega arith))
tells-by rec m k parts h l ih false p =
    let g = leb-false (length rec) k p in
    ⊎_elim
    (λ q. subst (Tells rec) (sym (walk-stop rec m k parts (Record k) p q.0)) (inl (k, parts, h, g, q.1, refl)))
    (λ q. subst (Tells rec) (sym (walk_step rec m k parts p q.0)) (ih (past h g q.1) ((sound-iff rec k parts).0 q.0).room))
    (tag-judged rec k parts)

tells : (rec : List ℕ) (m k : ℕ) (parts : List Part) → Reaches rec k parts → k ≤ length rec → length rec ≤ k + m → Tells rec (walk rec m k parts)
tells rec zero k parts h l n = subst (Tells rec) (sym (walk_end rec zero k parts (omega arith))) (tells-end rec k parts h (omega arith))
tells rec (suc m) k parts h l n =
    tells-by rec m k parts h l (λ h' l'. tells rec m (k + 3 + size_at rec k) (parts ++ (part_at rec k ∷ [])) h' l' (omega arith)) (leb (length rec) k) refl

tells-walked : (rec : List ℕ) → Tells rec (walked rec)
unfolding walked
tells-walked rec = tells rec (length rec) 0 [] outset zero-le (omega arith)

-- ---- and where it is so, the walk tells it

-- the walk from offset k on is what is left of the whole walk
record Left (rec : List ℕ) (k : ℕ) (parts : List Part) : Type 0 where
  more : ℕ
  enough : length rec ≤ k + more
  same : walked rec ≡ walk rec more k parts

left-past : (rec : List ℕ) (m k : ℕ) (parts : List Part) → length rec ≤ k + m → walked rec ≡ walk rec m k parts → k < length rec → (BadTag rec k parts → ⊥)
    → Left rec (k + 3 + size_at rec k) (parts ++ (part_at rec k ∷ []))
left-past rec zero k parts n e l g = absurd (omega arith)
left-past rec (suc m) k parts n e l g =
    record { more = m; enough = omega arith; same = e ∙ walk_step rec m k parts (lt-leb (length rec) k l) (untold (tag-judged rec k parts) g) }

left : {rec : List ℕ} {k : ℕ} {parts : List Part} → Reaches rec k parts → Left rec k parts
unfolding walked
left {rec} outset = record { more = length rec; enough = omega arith; same = refl }
left {rec} (past {k} {parts} h l g) = let f = left h in left-past rec f.more k parts f.enough f.same l g

stopped : (rec : List ℕ) (m k : ℕ) (parts : List Part) → length rec ≤ k + m → walked rec ≡ walk rec m k parts → k < length rec → BadTag rec k parts → walked rec ≡ damaged (Record k)
stopped rec zero k parts n e l b = absurd (omega arith)
stopped rec (suc m) k parts n e l b = e ∙ walk-stop rec m k parts (Record k) (lt-leb (length rec) k l) (told (tag-judged rec k parts) b)

ended : (rec : List ℕ) (parts : List Part) → Reaches rec (length rec) parts → walked rec ≡ at_end rec parts
ended rec parts h = let f = left h in f.same ∙ walk_end rec f.more (length rec) parts (le_refl (length rec))

pub damaged-iff : (rec : List ℕ) (r : Refusal) → (walked rec ≡ damaged r) ↔ Damaged rec r
damaged-iff rec r = (
  λ e. subst (Tells rec) e (tells-walked rec),
  ⊎_elim
      (λ d. let f = left d.2 in stopped rec f.more d.0 d.1 f.enough f.same d.3 d.4 ∙ ap damaged d.5)
      (λ d. ended rec d.0 d.1 ∙ ap (λ o. unless o (whole d.0)) (told (end-judged rec d.0) d.2) ∙ ap damaged d.3),
)

pub whole-iff : (rec : List ℕ) (parts : List Part) → (walked rec ≡ whole parts) ↔ WholeIn rec parts
whole-iff rec parts = (
  λ e. subst (Tells rec) e (tells-walked rec),
  λ w. ended rec parts w.0 ∙ ap (λ o. unless o (whole parts)) (none-missing rec parts w.1),
)
