pub mod InOrder
pub mod InJournal
