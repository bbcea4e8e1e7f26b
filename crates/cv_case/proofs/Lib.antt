mod Kept
mod Placing
mod Sites
