pub mod RoundTrip
pub mod Among
pub mod Bytes
