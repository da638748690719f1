pub mod Decimals
pub mod EntryLines
pub mod Lengths
pub mod Listings
pub mod Writes
