mod Statuses
mod Reported
mod Refused
mod OnRequests
pub mod Answered
pub mod Rejects
pub mod OfOrders
