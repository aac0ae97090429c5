mod Playing
mod Beginning
mod Files
mod Ending
