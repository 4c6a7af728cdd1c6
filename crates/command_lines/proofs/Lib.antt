pub mod Folds
mod Parsing
mod ScriptParsing
