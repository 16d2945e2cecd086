-- from the tests of a call to its promise
pub mod CallLaws
