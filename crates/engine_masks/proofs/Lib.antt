pub mod Slots
pub mod Rules
pub mod Proper
