pub use Rattle.stage_steps.proofs.of_session_stands as of_session_stands
