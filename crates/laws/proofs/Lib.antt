pub mod Tests
pub mod InTurn
pub mod Chains
pub mod Writes
pub mod Standing
