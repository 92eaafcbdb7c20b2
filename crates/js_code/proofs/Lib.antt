pub mod Cursors
pub mod ToldCosts
