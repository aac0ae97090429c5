mod Words
mod Reading
mod Building
