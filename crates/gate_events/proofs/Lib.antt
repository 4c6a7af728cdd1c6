mod OneItem
mod AnyOf
mod Sources
