mod Lookups
mod Made
mod Recorded
