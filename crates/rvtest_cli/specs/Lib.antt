pub mod RvtestCommand
pub mod RvtestArgs
pub mod ArgsErrors
