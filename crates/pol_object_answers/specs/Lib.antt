pub mod ObjectAnswers
