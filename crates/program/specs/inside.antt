-- What the clauses of functions say that are handed a task.
pub mod Judging
