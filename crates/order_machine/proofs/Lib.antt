pub mod Texts
pub mod Lists
pub mod Bodies
mod AskedReplaces
mod Due
mod Reports
mod Sound
mod Rejects
mod Leads
mod Endings
mod Moves
pub mod Executed
mod Asked
mod Canceled
mod Accepted
mod Broken
mod Rejected
mod NotReplaced
mod Replaced
mod Judged
mod Row
pub mod Addressed
pub mod Fits
mod Untouched
mod Agreeing
pub mod Holds
pub mod Hearing
mod Lawfully
mod Pushing
pub mod Verdicts
pub mod Coming
mod Came
mod Requested
pub mod Truth
pub mod Finding
pub mod Linked
pub mod Placed
mod Ids
pub mod FewReports
mod Stepping
mod Answering
pub mod Running
pub mod OnPorts
pub mod Unanswered
pub mod NewlyAsked
pub mod AllAsked
pub mod Known
pub mod Numbers
pub mod Leading
pub use Rattle.tokens.proofs as tokens
