pub mod Counts
pub mod Told
pub mod Files
pub mod Stores
pub mod Streams
pub mod Doors
pub mod Plans
pub mod Memory
