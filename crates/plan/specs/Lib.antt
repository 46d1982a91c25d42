pub mod Plan
pub mod SameFeeds
pub mod inner
