-- The results of the commands' functions.
pub mod Exits
pub mod ReplayExits
pub mod FileExits
pub mod Findings
