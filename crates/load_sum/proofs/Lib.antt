pub mod BelongTo
