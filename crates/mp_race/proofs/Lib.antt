pub mod Playing
pub mod Working
pub mod Explaining
pub mod Ordered
pub mod Lines
pub mod Fresh
pub mod Fitting
pub mod Spelling
pub mod HistoryLines
pub mod Tellable
pub mod TicketsRead
pub mod Fronts
pub mod Refusing
mod Alone
