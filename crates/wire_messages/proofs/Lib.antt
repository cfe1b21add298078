pub mod PlaceLemmas
pub mod UnwrittenLemmas
pub mod WritingLemmas
pub mod WireLemmas
pub mod GivenLemmas
pub mod BackLemmas
pub mod RestLemmas
