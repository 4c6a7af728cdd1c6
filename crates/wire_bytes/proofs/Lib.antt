pub mod Numbers
mod SameTokens
