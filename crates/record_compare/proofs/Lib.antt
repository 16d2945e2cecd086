-- calls of the comparison by name, and the theorems of them
pub mod Applied
