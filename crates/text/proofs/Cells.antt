-- The cells of a grid as a loop over its fields has them: each with its index, its depth and its velocities. Assumes nothing.
use Rattle.std.specs.Prelude.{◌≡◌, refl, List, ◌∷◌, [], ℕ, ◌/◌, ◌%◌, ◌<◌, ℤ, pos, length, get_or}
use Rattle.std.specs.List.{zip, enumerate_from}
use Rattle.std.specs.Iterator.Adapters.{zip_first, zip_second, enumerate_source, enumerate_count, enumerate_steps}
use Rattle.std.specs.Slice.Iter.{iter_rest}
use Rattle.std.specs.declared.iter.Enumerate.{Enumerate}
use Rattle.std.specs.declared.iter.Zip.{Zip}
use Rattle.std.proofs.Common.{◌∙◌, zero-add, arith, Iter}
use Rattle.std.proofs.iter.Yields.{fronts}
use Rattle.std.proofs.lemmas.Iterator.{YieldsList, zips, YieldsList-from_slice, YieldsList-from_zip}
use Rattle.std.proofs.lemmas.Iterator.Consumers.{YieldsList-from_enumerate}
use Rattle.std.proofs.lemmas.List.{get_or_default}
use Rattle.std.proofs.lemmas.List.FromFn.{get_or-enumerate_from, length-enumerate_from}
use Rattle.std.proofs.lemmas.Slice.Zip.{get_or-zip, length-zip}
use Rattle.model.specs.Program.{decimal, line}

abbrev pub Cell : Type 0
Cell = ℕ × ((ℤ × ℤ) × ℤ)

-- the line of one, on a grid of w columns
abbrev pub line_of : ℕ → Cell → List ℕ
line_of w c = line (decimal (pos (c.0 % w)) ∷ decimal (pos (c.0 / w)) ∷ decimal c.1.0.0 ∷ decimal c.1.0.1 ∷ decimal c.1.1 ∷ [])

module _ (h u v : List ℤ) where
  abbrev pub cell_at : ℕ → Cell
  cell_at n = (n, ((get_or h n (pos 0), get_or u n (pos 0)), get_or v n (pos 0)))

  abbrev pub indexed : List Cell
  indexed = enumerate_from 0 (zip (zip h u) v)

  -- the loop goes through them
  pub goes_through : {s : Enumerate (Zip (Zip (Iter ℤ) (Iter ℤ)) (Iter ℤ))} → iter_rest (zip_first (zip_first (enumerate_source s))) ≡ h
      → iter_rest (zip_second (zip_first (enumerate_source s))) ≡ u → iter_rest (zip_second (enumerate_source s)) ≡ v → enumerate_count s ≡ 0
      → YieldsList {B = Cell} (enumerate_steps (zips (zips fronts fronts) fronts)) (λ p. (p.0, ((p.1.0.0.now, p.1.0.1.now), p.1.1.now))) s indexed
  goes_through a b c e =
      YieldsList-from_enumerate (YieldsList-from_zip (YieldsList-from_zip (YieldsList-from_slice h a) (YieldsList-from_slice u b)) (YieldsList-from_slice v c)) e

  module _ (us : length u ≡ length h) (vs : length v ≡ length h) where
    -- one for each cell
    pub indexed-long : length indexed ≡ length h
    indexed-long = length-enumerate_from 0 (zip (zip h u) v) ∙ omega (arith, us, vs, length-zip h u, length-zip (zip h u) v)

    -- the one with index n
    pub indexed-at : (n : ℕ) (x : Cell) → (n < length indexed) × (x ≡ get_or indexed n x) → x ≡ cell_at n
    indexed-at n x p =
        let few : n < length h = omega (arith, indexed-long, p.0) in
        let more : n < length u = omega (arith, us, few) in
        let last : n < length v = omega (arith, vs, few) in
        let pair : n < length (zip h u) = omega (arith, length-zip h u, few, more) in
        let all : n < length (zip (zip h u) v) = omega (arith, length-zip (zip h u) v, pair, last) in
        p.1 ∙ rw (get_or-enumerate_from, zero-add, get_or-zip, get_or-zip, get_or_default h n x.1.0.0 (pos 0), get_or_default u n x.1.0.1 (pos 0), get_or_default v n x.1.1 (pos 0)) refl
