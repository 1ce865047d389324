pub mod Messages
pub mod RefusedLines
pub mod Stops
pub mod Texts
pub use Rattle.rv_files.specs.Files
pub use Rattle.rv_files.specs.Limits
pub use Rattle.rv_files.specs.Names
pub use Rattle.rv_list_errors.specs.NearestJob
pub use Rattle.rv_list_errors.specs.PlacedFaults
pub use Rattle.rv_list_errors.specs.Printable
pub use Rattle.rvtest_cli.specs.RvtestWords
pub use Rattle.rvtest_cli.specs.declared.run as declared_run
