mod Commands
mod Counts
mod Examples
mod Parsers
mod PlainWords
