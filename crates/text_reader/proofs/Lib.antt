pub mod Bytes
pub mod Numbers
pub mod Joined
pub mod TurnLemmas
pub mod ListLemmas
