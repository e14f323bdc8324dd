pub mod BlockNumber
