pub mod Device
pub mod Recovery
pub mod Cache
pub mod Ledger
pub mod Laws
pub mod Known
