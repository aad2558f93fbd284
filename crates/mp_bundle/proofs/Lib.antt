mod Names
pub mod Search
pub mod Tokens
pub mod Same
pub mod Faults
pub mod Coin
pub mod Parted
pub mod TotalsLemmas
pub mod TokenOf
pub mod SumLemmas
pub mod Differences
pub mod LawsLemmas
