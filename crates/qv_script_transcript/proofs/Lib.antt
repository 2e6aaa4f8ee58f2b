pub mod Lasting
pub mod Checking
pub mod Alike
pub mod PrintedLines
pub mod Keeping
pub mod Continuing
pub mod Deciding
pub mod Accepting
mod FollowingExamples
mod CertificateExamples
