mod Reading
mod Written
