pub mod Telling
pub mod InOrder
pub mod InJournal
pub mod Histories
pub mod Plays
