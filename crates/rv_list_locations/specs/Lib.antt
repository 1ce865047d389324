pub mod LinesAndColumns
pub mod JobLocations
pub mod JobStarts
pub mod JobKeys
pub mod NamedKeys
pub mod ValueSpans
pub mod Steps
