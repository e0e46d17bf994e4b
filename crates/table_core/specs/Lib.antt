pub mod Entry
pub mod Table
pub mod Sights
pub mod Lending
pub mod TiedEntry
pub use Rattle.cell_core.specs.Block
pub use Rattle.seg_core.specs.Segment
