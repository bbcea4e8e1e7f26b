mod Ends
mod InFlight
mod Steps
