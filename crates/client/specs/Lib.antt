pub mod FeedAll
