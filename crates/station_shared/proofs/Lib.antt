pub mod Common
pub mod KeptLemmas
pub mod CloseLemmas
pub mod CountLemmas
pub mod LookLemmas
pub mod NewcomerLemmas
pub mod SeatRunLemmas
pub mod RoomLemmas
