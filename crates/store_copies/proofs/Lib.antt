pub mod Keeping
pub mod Fitting
pub mod Seated
pub mod Relations
pub mod Others
pub mod Lifted
pub mod Working
pub mod CopySteps
mod Committed
mod OneBackup
pub mod Rolled
mod Few
mod Fitted
pub mod Begins
pub mod Sighted
pub mod Plain
pub mod Standing
mod SetCopies
