pub mod Agreement
pub mod Create
pub mod Laws
pub mod Replace
