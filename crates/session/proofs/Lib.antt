mod Ways
mod Finds
mod Handed
mod Equal
