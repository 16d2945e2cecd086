-- what is read of a record, and what its tests find
pub mod RecordTested
