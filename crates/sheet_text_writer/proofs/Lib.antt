mod Rooms
mod Signs
mod Chains
mod Answers
