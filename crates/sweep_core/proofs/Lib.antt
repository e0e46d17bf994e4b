mod Sampled
mod Totals
