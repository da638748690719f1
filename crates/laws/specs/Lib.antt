pub mod Tests
pub mod InTurn
pub mod Lent
