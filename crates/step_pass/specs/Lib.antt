-- what a pass finds and leaves in the work space, and what it asks
pub mod Spaces
