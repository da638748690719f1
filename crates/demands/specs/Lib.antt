pub mod Bench
pub mod RoundTrips
pub mod Agreement
pub mod SideBySide
pub mod ForEver
pub mod Sharp
pub mod Passage
