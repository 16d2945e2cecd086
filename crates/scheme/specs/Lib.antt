-- what a function that reads fields asks of them; what a cell gives to its edges; what is read around a cell is the model's
pub mod Ready
pub mod Shares
pub mod Around
-- how large the numbers become
pub mod SchemeSizes
pub mod Passing
-- what is handed on from cell to cell and from row to row
pub mod Handing
-- what barriers do to tendencies
pub mod Masking
-- what does not enter
pub mod Entering
