pub mod Caused
pub mod Fits
pub mod Outlined
pub mod Passing
pub mod Untouched
pub mod Written
