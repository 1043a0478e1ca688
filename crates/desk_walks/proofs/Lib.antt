pub mod Clear
pub mod ClearAll
pub mod Parts
