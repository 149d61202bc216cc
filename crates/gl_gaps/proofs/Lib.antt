pub mod EvenGaps
