-- calls by name, and the theorems of them
pub mod Calls
pub mod Applied
pub mod Probed
pub mod Balance
pub mod Records
