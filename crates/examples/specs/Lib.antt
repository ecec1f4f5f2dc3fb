pub mod Initials
pub mod Records
pub mod Tables
pub mod Tokens
pub mod Needles
pub mod Cases
