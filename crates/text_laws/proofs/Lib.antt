mod Longest
mod Plain
mod Seams
mod Sound
