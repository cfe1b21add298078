mod EventLemmas
mod ViewLemmas
