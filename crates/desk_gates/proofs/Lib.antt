pub use Rattle.desk.proofs as desk
pub mod Sent
