pub mod Codec
pub mod Listing
