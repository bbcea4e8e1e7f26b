mod Ending
mod Running
mod Seating
mod Whole
