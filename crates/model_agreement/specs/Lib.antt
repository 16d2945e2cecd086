-- numbers of the independent version, computed from the model
pub mod Agreement
