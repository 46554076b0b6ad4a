pub mod CommaLemmas
pub mod DegreeLemmas
pub mod MemberLemmas
pub mod RootLemmas
pub mod RowLemmas
pub mod TangentLemmas
