-- What a list as plain numbers holds: views of its state, which help the proofs.
pub mod State
