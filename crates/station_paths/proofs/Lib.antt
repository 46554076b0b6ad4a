pub mod Common
pub mod FedLemmas
mod PathEndLemmas
