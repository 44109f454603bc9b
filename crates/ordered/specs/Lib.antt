pub mod Model
pub mod Grants
pub mod Opening
pub mod Reading
