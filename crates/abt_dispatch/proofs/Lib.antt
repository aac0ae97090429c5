mod Ahead
mod Searching
mod Delivering
mod Standing
mod Turning
mod Picking
