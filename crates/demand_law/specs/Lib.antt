pub mod Laws
pub mod OneLive
pub mod NoOver
