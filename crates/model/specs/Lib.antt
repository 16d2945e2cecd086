-- Document 01 as definitions, in the order in which it is best read.

-- rounding and bounds; the grid and its wrap; the state, its boundary and its limits
pub mod Numbers
pub mod Grid
pub mod State
-- the fields; 01's number and values of each answer; tests in order; the table of refusals
pub mod Fields
pub mod Answers
pub mod Tests
pub mod Refusals
-- the scheme: weights, potential vorticity, tendencies; the tendencies in doubles; the rates that the theorems speak of; totals
pub mod Weights
pub mod Scheme
pub mod Doubles
pub mod Rates
pub mod Totals
-- two-pass step, run and work space; record
pub mod Step
pub mod Record
-- what each call promises; the step program; lists of calls; the theorems as statements
pub mod Promises
pub mod Program
pub mod Histories
pub mod Claims
-- the worked examples, computed
pub mod Opened
pub mod Examples
