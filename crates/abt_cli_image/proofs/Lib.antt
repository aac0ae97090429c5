mod Calling
mod Rooms
mod Giving
mod Opening
mod Starting
mod Words
