-- destinations, and from the tests to the promise
mod ReadLaws
-- calls by name, and the theorems of them
pub mod Calls
pub mod Applied
