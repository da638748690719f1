pub mod Text
pub mod Listing
pub mod Room
pub mod Writer
