mod Written
mod Stripped
mod Cooks
