pub mod LineInput
