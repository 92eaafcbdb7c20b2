pub mod Signs
pub mod Printed
pub mod PrintedText
pub mod Edges
pub mod Parts
pub mod Written
