pub mod FoundLemmas
mod LineLemmas
mod PlaceLemmas
mod RowLemmas
mod RunLemmas
mod WalkedLemmas
mod WordLemmas
mod WordsFaultLemmas
