pub mod LineLogs
