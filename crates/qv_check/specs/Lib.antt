-- what public contracts cite
pub use Rattle.qv_check_lines.specs.Judging
pub use Rattle.qv_check_lines.specs.Ending
-- the inside
pub mod Nodes
pub mod Opening
