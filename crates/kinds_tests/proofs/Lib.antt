mod Disarmed
mod Steps
mod Timing
