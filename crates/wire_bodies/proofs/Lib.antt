pub mod WholeBodies
pub mod Prefixes
pub mod Passed
pub mod Passing
pub mod Reading
pub mod ValueLemmas
