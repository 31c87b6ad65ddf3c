pub mod CarryLemmas
pub mod DayLemmas
pub mod MaskLemmas
pub mod NextLemmas
pub mod PartLemmas
pub mod ReadLemmas
pub mod RepeatLemmas
pub mod SetLemmas
