pub mod Rows
mod Fields
mod AskVerdict
mod EnterOrders
mod ReplaceFields
mod RequestBytes
mod RequestVerdict
mod FirstRows
mod Standing
mod Steps
mod Sending
mod AcceptedCancel
mod AcceptedReplace
mod Pending
mod NewVerdict
mod NewAsking
mod Entering
pub use Rattle.order_table.proofs as order_table
pub use Rattle.tokens.proofs as tokens
