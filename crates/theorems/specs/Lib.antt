-- The proofs of the model's claims; Theorems.antt lists them all.

-- tests and refusals
pub mod Truth
pub mod Scans
pub mod TestLaws
pub mod Limits
pub mod Causes
pub mod Fixed
pub mod Refused
-- what the calls fill in
pub mod Filling
pub mod Probes
pub mod Vorticity
pub mod WallCorners
-- what is kept
pub mod Conservation
pub mod ZeroRates
pub mod ProductRule
-- step, run and lists of calls
pub mod Depth
pub mod Stepping
pub mod Runs
pub mod RunEnds
pub mod RunSteps
pub mod Balances
-- the record
pub mod NumbersAsBytes
pub mod Walks
pub mod TagLaws
pub mod Damage
pub mod RoundTrip
pub mod ReadCauses
pub mod Written
pub mod Rising
pub mod Rewrite
pub mod OneFieldMore
pub mod ReadAlike
pub mod AnyOrder
pub mod AbsentTag
pub mod ProgramSteps
pub mod Output
pub mod Timestamps
pub mod Comparing
pub mod Theorems
