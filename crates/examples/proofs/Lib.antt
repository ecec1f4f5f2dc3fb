pub mod RecodeLemmas
pub mod RecordLemmas
pub mod TableLemmas
pub mod TokenLemmas
pub mod NeedleLemmas
pub mod CaseLemmas
