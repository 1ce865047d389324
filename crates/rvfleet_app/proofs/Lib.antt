pub mod Answering
pub mod Failing
pub mod RowReporter
