-- what public contracts cite
pub mod Frames
pub mod Loop
