-- what a step answers, by what it comes to
pub mod AsStep
-- a run under way
pub mod Running
pub mod Beside
