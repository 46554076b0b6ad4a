mod BorderLemmas
pub mod Common
mod GoingOnLemmas
mod PartLemmas
mod ReceiverLemmas
mod RunJobLemmas
mod SeatLemmas
mod SeatNumberLemmas
mod StationLemmas
mod TakenLemmas
