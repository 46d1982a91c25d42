pub mod ByKind
pub mod Taking
