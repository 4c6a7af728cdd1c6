mod Amounts
mod Exact
mod Points
pub mod Printed
pub mod SaidInRange
mod Sizes
mod Numbers
mod Worths
