pub mod Queues
pub mod Shares
