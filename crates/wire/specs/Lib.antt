pub mod Answers
pub mod Courses
pub mod Ends
pub mod Replies
pub mod Worlds
