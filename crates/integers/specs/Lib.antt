-- laws of ℤ; polynomial identities, inequalities by a certificate, and bounds for what must fit 64 bits, by computation; how large
-- numbers within the limits are; ranges; rounding; the weight table's rows as sums
pub mod Laws
pub mod Ring
pub mod Order
pub mod Bounds
pub mod Magnitudes
pub mod Ranges
pub mod Rounding
pub mod Formulas
