pub use Rattle.session_limits.proofs as of_session_limits
pub use Rattle.session_measure.proofs as of_session_measure
pub use Rattle.session_stands.proofs as of_session_stands
pub use Rattle.session_limits.proofs.of_session_states as of_session_states
pub mod Seated
pub mod Resting
pub mod Goes
pub mod Failing
pub mod Stored
pub mod Copied
pub mod Jobs
pub mod Tests
pub mod Read
pub mod Fetched
pub mod ReaderRounds
pub mod Firsts
pub mod Unchanged
pub mod Asked
pub mod Called
pub mod Nearer
pub mod Preparing
pub mod Serves
pub mod Falls
