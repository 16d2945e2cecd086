-- what a function returns and leaves in a lent answer
pub mod Told
