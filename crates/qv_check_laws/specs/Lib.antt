-- what public contracts cite
pub mod Verdict
pub mod VerdictLaws
pub mod AnswerLaws
