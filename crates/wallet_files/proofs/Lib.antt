pub mod CommandRuns
pub mod Feeds
