pub mod Judging
mod Testing
mod Signs
mod Taking
