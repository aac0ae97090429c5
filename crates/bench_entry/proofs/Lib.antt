mod Giving
mod Playing
mod Images
