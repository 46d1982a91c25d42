pub mod Nonrecursive
pub mod NonrecursiveDecimator
pub mod EitherKind
pub mod inner
