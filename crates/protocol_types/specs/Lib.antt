pub mod Lists
pub mod Bits
pub mod Refusals
pub mod Board
pub mod Conditions
pub mod Answers
pub mod SearchAnswers
