pub mod Counts
pub mod Courses
pub mod Going
