-- what public contracts cite
pub mod EndLines
pub mod Printing
pub mod Shown
pub mod Filled
