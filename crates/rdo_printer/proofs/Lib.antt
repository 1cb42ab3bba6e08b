pub mod Labels
pub mod WordLaws
pub mod Reading
pub mod Built
pub mod Operands
pub mod ExpressionLaws
pub mod ConditionLaws
pub mod TreeLaws
pub mod ItemLaws
pub mod ActionLaws
pub mod StatementLaws
pub mod ViewLaws
pub mod TokenLaws
pub mod TreeWords
pub mod CommandWords
pub mod TextLaws
mod Examples
