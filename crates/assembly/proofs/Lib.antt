pub mod Digits
pub mod Lining
pub mod Splitting
pub mod Telling
