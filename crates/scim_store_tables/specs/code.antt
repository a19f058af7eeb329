pub mod Schema
pub mod Opening
pub mod Migrating
pub mod Changes
pub mod Keys
pub mod Told
