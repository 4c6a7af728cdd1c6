mod Audited
mod Back
