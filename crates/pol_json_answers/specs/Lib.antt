pub mod JsonAnswers
