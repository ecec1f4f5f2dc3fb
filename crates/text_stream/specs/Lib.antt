pub mod Located
pub mod LocatedLaws
pub mod FormPieces
pub mod UndecidedEnds
pub mod ChangedRanges
pub mod FaultLists
