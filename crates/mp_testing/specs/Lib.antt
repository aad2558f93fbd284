pub mod Devices
pub mod Names
