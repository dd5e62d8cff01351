pub mod State
pub mod Given
pub mod Taken
pub mod Restoring
pub mod Building
-- ---- the builder's plain model
pub mod Frames
