pub mod Connections
pub mod Listening
pub mod LogPace
pub mod OpenConnections
pub mod PeerEvents
pub mod PollTokens
pub mod Ports
