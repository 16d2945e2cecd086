-- near a whole number; one rounding; sums and products; distances; expressions; the tendencies
pub mod Near
pub mod Floats
pub mod Rounded
pub mod Distances
pub mod Terms
pub mod Bound
-- expressions that are never -0.0; the weights of a cell as sums of its corners
pub mod Plain
pub mod Corners
