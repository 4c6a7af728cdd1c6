mod Days
mod Stamps
