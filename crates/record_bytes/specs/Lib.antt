-- how many bytes a number takes; tags and their table; laws of bytes read and written one by one
pub mod NumberSizes
pub mod Tags
pub mod ByteLoops
pub mod Puts
pub mod BigEndian
