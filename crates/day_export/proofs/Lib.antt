mod Asked
mod Joined
mod Listed
mod Turns
