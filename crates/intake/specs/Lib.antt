pub mod Arrival
pub mod Contents
pub mod Described
pub mod Recorded
