pub mod Came
