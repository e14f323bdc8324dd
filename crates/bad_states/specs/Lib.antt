pub mod BadStates
