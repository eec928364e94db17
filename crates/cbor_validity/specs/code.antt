-- What ties the code to the definitions: reading and checking in one walk, and the meaning of keys.
pub mod FineParts
pub mod KeySeen
