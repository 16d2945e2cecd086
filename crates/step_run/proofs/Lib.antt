-- from a step to the next; from the tests of a call to its promise
pub mod RunLaws
pub mod CallLaws
-- calls by name, and the theorems of them
pub mod Calls
pub mod Applied
