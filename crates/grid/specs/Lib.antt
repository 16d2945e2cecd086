-- sums over the grid, the shift law, and polynomial sums over the torus by computation
pub mod Sums
pub mod Torus
-- cells and neighbours; corners; fields filled cell by cell; loops that write a list; loops that scan; and the loop that puts 0
-- on the edges which barriers close
pub mod Cells
pub mod Stencils
pub mod Corners
pub mod CellFields
pub mod Parts
pub mod Places
pub mod WritingLoops
pub mod Scanning
pub mod Barred
