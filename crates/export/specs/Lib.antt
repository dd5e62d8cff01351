pub mod Replies
pub mod Code
pub mod Lists
pub mod Steps
pub mod Roots
pub mod Cursors
pub mod Builders
