pub mod Asked
pub mod Rows
pub mod Totals
pub mod FillOrKill
pub mod Ports
pub mod Moves
pub mod World
pub mod Promises
