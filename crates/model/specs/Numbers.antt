-- Whole numbers: rounding, 01's bounds, and tests that compute.
use Rattle.std.specs.Prelude.{Bool, true, false, ◌&&◌, ◌||◌, List, [], ◌∷◌, ℕ, suc, ◌+◌, ◌*◌, ◌/◌, eqb, ℤ, pos, negsuc, neg_ℤ, nat_abs, ◌+ℤ◌, ◌≤ℤ◌}
use Rattle.std.specs.Int.Signed.{le_z}

-- 01's rnd(a/b), b above 0: the nearest whole number, halves away from zero (RoundingClaim of Claims.antt says so of it)
unfoldable pub rnd : ℤ → ℤ → ℤ
rnd (pos a) b = pos ((2 * a + nat_abs b) / (2 * nat_abs b))
rnd (negsuc a) b = neg_ℤ (pos ((2 * suc a + nat_abs b) / (2 * nat_abs b)))

-- the sum of a list
unfoldable pub total : List ℤ → ℤ
total [] = pos 0
total (x ∷ l) = x +ℤ total l

-- ---- bounds

-- the least and the greatest number allowed
pub record Limits : Type 0 where
  pub least : ℤ
  pub most : ℤ

infix 60 ◌to◌
abbrev pub ◌to◌ : ℤ → ℤ → Limits
a to b = record { least = a; most = b }

-- mm
unfoldable pub depth_limits : Limits
depth_limits = pos 1000 to pos 100000

unfoldable pub bottom_limits : Limits
bottom_limits = pos 0 to pos 100000

-- mm/s
unfoldable pub velocity_limits : Limits
velocity_limits = neg_ℤ (pos 5000) to pos 5000

-- G in mm/s², c and R in mm/s
unfoldable pub gravity_limits : Limits
gravity_limits = pos 1 to pos 10000

unfoldable pub coriolis_limits : Limits
coriolis_limits = neg_ℤ (pos 10000) to pos 10000

unfoldable pub ratio_limits : Limits
ratio_limits = pos 1000 to pos 1000000

-- inflow (01: river entry s), mm a step
unfoldable pub inflow_limits : Limits
inflow_limits = neg_ℤ (pos 1000) to pos 1000

-- potential vorticity times spacing times 65,536
unfoldable pub vorticity_limits : Limits
vorticity_limits = neg_ℤ (pos 2000000) to pos 2000000

-- a byte of barriers (02: piers): two bits
unfoldable pub barrier_limits : Limits
barrier_limits = pos 0 to pos 3

-- 02's narrow bounds (U3): within these, doubles hold every step of the tendencies
unfoldable pub narrow_depth_limits : Limits
narrow_depth_limits = pos 1000 to pos 10000

unfoldable pub narrow_bottom_limits : Limits
narrow_bottom_limits = pos 0 to pos 10000

unfoldable pub narrow_velocity_limits : Limits
narrow_velocity_limits = neg_ℤ (pos 500) to pos 500

unfoldable pub narrow_vorticity_limits : Limits
narrow_vorticity_limits = neg_ℤ (pos 1000000) to pos 1000000

-- columns or rows, from 1 on
abbrev pub longest_side : ℕ
longest_side = 64

-- steps, from 0 on
abbrev pub longest_run : ℕ
longest_run = 10000

-- milliseconds of a timestamp, from 0 on
abbrev pub most_milliseconds : ℕ
most_milliseconds = 999

-- a number meets its bound: as a test, and as a fact
unfoldable pub within : Limits → ℤ → Bool
within l x = le_z l.least x && le_z x l.most

pub record Within (l : Limits) (x : ℤ) : Type 0 where
  pub low : l.least ≤ℤ x
  pub high : x ≤ℤ l.most

-- ---- scales, so that every term is a whole number

-- q is potential vorticity times spacing times 65,536; H is four times a depth, so Z is multiplied by four times that
abbrev pub vorticity_scale : ℤ
vorticity_scale = pos 262144

-- Tu and Tv are rates times spacing times this: q's 65,536, the weights' 24, and the 2 of U and V
abbrev pub tendency_scale : ℤ
tendency_scale = pos 3145728

-- B is four times the Bernoulli function, so in Tu and Tv its difference is multiplied by a quarter of that
abbrev pub bernoulli_scale : ℤ
bernoulli_scale = pos 786432

-- -D is a rate times 2 spacings, so half of that brings it to the scale of Tu and Tv
abbrev pub divergence_scale : ℤ
divergence_scale = pos 1572864

-- ---- tests

abbrev pub eqℤ : ℤ → ℤ → Bool
eqℤ (pos a) (pos b) = eqb a b
eqℤ (pos a) (negsuc b) = false
eqℤ (negsuc a) (pos b) = false
eqℤ (negsuc a) (negsuc b) = eqb a b

abbrev pub all : {A : Type 0} → (A → Bool) → List A → Bool
all p [] = true
all p (x ∷ l) = p x && all p l

abbrev pub any : {A : Type 0} → (A → Bool) → List A → Bool
any p [] = false
any p (x ∷ l) = p x || any p l

-- two lists have the same elements by a test
abbrev pub same_by : {A : Type 0} → (A → A → Bool) → List A → List A → Bool
same_by eq [] [] = true
same_by eq [] (y ∷ b) = false
same_by eq (x ∷ a) [] = false
same_by eq (x ∷ a) (y ∷ b) = eq x y && same_by eq a b
