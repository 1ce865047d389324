pub mod HalfwordForms
pub mod Rows
pub mod Apart
pub mod Missing
