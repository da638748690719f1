pub mod Largest
pub mod Remainder
pub mod NextToken
pub mod Answers
