-- where the tags of a record stand
pub mod Places
-- what test 7 tells
pub mod Found
