pub mod Common
pub mod PrefixLemmas
pub mod ReportLemmas
mod ReportTimeLemmas
