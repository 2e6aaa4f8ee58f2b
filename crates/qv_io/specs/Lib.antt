-- what public contracts cite
pub mod Count
pub mod MemSink
pub mod MemSource
pub mod Sink
pub mod Source
pub mod StdSink
pub mod StdSource
-- the inside
pub mod Again
