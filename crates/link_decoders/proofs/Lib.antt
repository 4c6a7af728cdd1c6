mod Framing
mod Packeting
