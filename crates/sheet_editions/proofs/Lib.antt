mod Filling
mod Runs
mod Marks
mod Words
mod Answers
