pub mod Sink
pub mod Numerals
pub mod Lines
