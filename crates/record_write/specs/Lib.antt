-- fields of a record as bytes
pub mod FieldBytes
-- laws of the record's parts, and from the tests of the call to its promise
pub mod WriteLaws
