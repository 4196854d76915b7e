pub mod InnerRecomputed
pub mod InnerRounds
