pub mod Relied
pub mod Calls
