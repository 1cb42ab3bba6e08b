pub mod TalkSteps
