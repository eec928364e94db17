mod Indexes
mod Dates
mod Inserting
mod KeyPairs
