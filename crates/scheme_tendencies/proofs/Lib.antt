-- calls by name, and the theorems of them
pub mod Calls
pub mod Applied
