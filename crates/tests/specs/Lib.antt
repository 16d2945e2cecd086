pub mod Sought
pub mod Links
