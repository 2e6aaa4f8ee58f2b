-- what public contracts cite
pub mod Answering
pub mod CoreState
pub mod Feeding
pub mod Laws
pub mod Ordering
-- the inside
pub mod Aside
pub mod Choosing
pub mod Counting
pub mod Deciding
pub mod Holding
pub mod Learnt
pub mod Marking
pub mod Naming
pub mod Reaching
pub mod Reducing
pub mod Spending
