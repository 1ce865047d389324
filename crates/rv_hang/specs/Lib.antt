pub mod Quiet
pub mod ScriptEnd
pub mod Repetition
pub mod BudgetUse
