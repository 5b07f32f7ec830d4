pub mod Archives
pub mod Objects
mod Received
pub mod Results
