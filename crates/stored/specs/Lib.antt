pub mod FourBytes
pub mod Form
pub mod Fields
pub mod Writing
pub mod Reading
pub mod Kinds
