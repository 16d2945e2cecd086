-- what the values of a record mean; its tests in order
pub mod ValueLaws
pub mod OrderLaws
