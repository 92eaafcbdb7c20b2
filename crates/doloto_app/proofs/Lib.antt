pub mod Counts
pub mod FormatLemmas
pub mod Whole
