mod Digits
mod Fronts
mod Keeping
mod Resending
