pub mod Bytes
pub mod FieldLaws
pub mod Known
