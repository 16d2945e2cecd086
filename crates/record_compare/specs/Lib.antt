-- two accepted records
pub mod Read
-- when their states are the same; what the comparison answers
pub mod SameLaws
pub mod CompareLaws
