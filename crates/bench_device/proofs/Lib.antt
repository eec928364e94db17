pub mod KeyLines
