pub mod Tokens
pub mod Answers
pub mod Count
