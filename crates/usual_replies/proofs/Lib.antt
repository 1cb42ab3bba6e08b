pub mod UsualReplies
pub mod UsualMeanings
