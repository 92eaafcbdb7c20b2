pub mod Rows
pub mod TextRows
pub mod HeightRows
pub mod FaultRows
pub mod RefusedRows
