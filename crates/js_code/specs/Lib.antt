pub mod View
pub mod Size
pub mod Costs
pub mod Bound
pub mod Nodes
pub mod Falls
pub mod Cursors
pub mod Projections
