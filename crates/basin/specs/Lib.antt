-- what the C functions return, and what they leave in a lent answer
pub mod FromC
