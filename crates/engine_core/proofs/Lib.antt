mod Errors
mod LongInput
mod Prefixes
