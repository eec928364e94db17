-- What ties the code to the definitions: a code of trees, by which two are equal in at most one way.
pub mod TreeCode
