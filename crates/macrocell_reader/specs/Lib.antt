pub mod Leaf
pub mod Inner
pub mod Nodes
pub mod NodeFaults
pub mod Settings
pub mod Meaning
pub mod Planes
pub mod Seen
