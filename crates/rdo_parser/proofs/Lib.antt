pub mod StatementLaws
pub mod PlaceLaws
pub mod ScriptLaws
mod Examples
