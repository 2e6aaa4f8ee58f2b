-- what public contracts cite
pub mod Lawful
pub mod Following
pub mod Certificates
pub mod PrintedLines
pub mod FollowingLaws
pub mod CertificateLaws
pub mod CheckLaws
-- the inside
pub mod Current
pub mod Alike
