pub mod ServedHistory
pub mod ReplayFault
