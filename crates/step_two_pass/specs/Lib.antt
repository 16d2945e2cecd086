-- what a scan finds and what a step comes to, as the code tells it
pub mod Outcomes
