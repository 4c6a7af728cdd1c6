mod Begins
mod Behind
mod Spaces
mod Tests
