pub mod Common
pub mod PublishRuleLemmas
pub mod StartLemmas
pub mod TurnLemmas
pub mod RoomLemmas
