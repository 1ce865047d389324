pub mod Profile
pub mod ImageStacks
pub mod Text
pub mod Csv
pub mod ProfileText
pub use Rattle.rv_cover_view.specs.ImageCounts
pub use Rattle.rv_cover_view.specs.ImagesText
pub use Rattle.rv_cover_view.specs.JobImages
