pub mod Answering
pub mod Events
pub mod HubSetting
pub mod HubStates
pub mod Streams
pub mod code
