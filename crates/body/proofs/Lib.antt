pub mod Laws
pub mod Places
pub mod Skimmed
pub mod Search
pub mod Positions
