-- What only the code needs: its faults as texts, how it holds a task, and what holds of every task that there is.
pub mod Seen
pub mod Reading
pub mod Steps
pub mod Possible
pub mod Views
