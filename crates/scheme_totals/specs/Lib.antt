-- sums that a loop has made in part, and how large they become; the energy of a cell, as code reads it
pub mod Summing
pub mod Energy
