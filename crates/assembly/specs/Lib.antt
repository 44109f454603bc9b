pub mod Arguments
pub mod Assembled
pub mod Keywords
pub mod Messages
pub mod Numbers
pub mod Statements
pub mod Told
pub mod Words
