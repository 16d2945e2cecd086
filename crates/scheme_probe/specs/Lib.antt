-- numbers that a double holds whole; a cell in doubles; what a row needs of the one to its south; from the tests of a probe to its promise
pub mod Held
pub mod Cells
pub mod Rows
pub mod Probed
