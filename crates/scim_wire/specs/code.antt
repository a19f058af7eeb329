-- The internal states of reading a stream.
pub mod Steps
pub mod Wires
pub mod ChunkLines
pub mod ChunkSteps
pub mod Trailers
