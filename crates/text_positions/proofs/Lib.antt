pub mod LineLemmas
pub mod EvenFronts
pub mod PositionLemmas
pub mod SinglePieces
