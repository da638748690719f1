pub mod Held
pub mod WellFormed
