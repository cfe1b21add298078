mod StateLemmas
mod ToldLemmas
