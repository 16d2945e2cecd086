-- The fields that a refusal can name: each by its number in an answer, the bounds of its numbers, and 02's narrow bounds.
use Rattle.std.specs.Prelude.{ℕ}
use Rattle.model.specs.Numbers.{Limits, depth_limits, bottom_limits, velocity_limits, vorticity_limits, inflow_limits, barrier_limits, narrow_depth_limits, narrow_bottom_limits, narrow_velocity_limits, narrow_vorticity_limits}
use Rattle.model.specs.declared.Field.{Field}
use Rattle.model.specs.declared.Field.TheVariants.{Depth, Bottom, VelocityU, VelocityV, Vorticity, Inflow, Barriers}

pub record FieldRow : Type 0 where
  pub number : ℕ
  pub limits : Limits
  pub narrow : Limits

-- the numbers are ours: 01 leaves them open, and those of fields added later come after them. 02 names narrow bounds (U3) for five fields;
-- the others keep their own
abbrev pub row_of : Field → FieldRow
row_of Depth = record { number = 0; limits = depth_limits; narrow = narrow_depth_limits }
row_of Bottom = record { number = 1; limits = bottom_limits; narrow = narrow_bottom_limits }
row_of VelocityU = record { number = 2; limits = velocity_limits; narrow = narrow_velocity_limits }
row_of VelocityV = record { number = 3; limits = velocity_limits; narrow = narrow_velocity_limits }
row_of Vorticity = record { number = 4; limits = vorticity_limits; narrow = narrow_vorticity_limits }
row_of Inflow = record { number = 5; limits = inflow_limits; narrow = inflow_limits }
row_of Barriers = record { number = 6; limits = barrier_limits; narrow = barrier_limits }

abbrev pub field_number : Field → ℕ
field_number f = (row_of f).number

abbrev pub limits_of : Field → Limits
limits_of f = (row_of f).limits

abbrev pub narrow_of : Field → Limits
narrow_of f = (row_of f).narrow
