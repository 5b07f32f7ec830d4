mod Both
pub mod Ends
mod Peers
pub mod Seen
mod Sofar
mod Follows
mod Reported
mod Turns
pub mod Arrived
pub mod Beginnings
pub mod Came
pub mod Heads
pub mod Lines
pub mod Longer
pub mod Named
pub mod Once
pub mod PlainText
pub mod Reading
pub mod Whole
