-- the tests at a tag, and the walk under way
pub mod TagLaws
mod WalkLaws
