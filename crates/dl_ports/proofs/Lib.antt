pub mod Progress
pub mod FilesLemmas
pub mod Taken
