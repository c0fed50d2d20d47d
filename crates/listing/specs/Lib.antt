pub mod Laying
pub mod Names
pub mod Lines
pub mod Writers
