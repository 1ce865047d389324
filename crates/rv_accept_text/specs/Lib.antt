pub mod GoldenFiles
pub mod ChangedTexts
pub mod FileLines
pub mod JobLines
pub mod NewLists
pub mod AcceptLines
pub use Rattle.rv_list_locations.specs.JobLocations
