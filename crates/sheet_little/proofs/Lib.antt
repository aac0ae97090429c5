mod Counted
mod Counts
mod Pairs
mod Sheets
