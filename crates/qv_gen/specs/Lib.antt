-- what public contracts cite
pub mod Text
pub mod Counts
pub mod Generating
pub mod TextSink
