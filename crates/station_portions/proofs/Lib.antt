pub mod Common
pub mod GivingLemmas
pub mod BacklogLemmas
pub mod SendingLemmas
pub mod WholeLemmas
pub mod RingLemmas
