pub mod Api
pub mod Decoders
pub mod FaultCalls
pub mod Positions
pub mod Repairs
pub mod Whole
pub mod SurveysForC
