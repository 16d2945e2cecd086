-- from what the parts of a pass leave to the model's pass
pub mod PassLaws
