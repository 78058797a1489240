mod Talks
mod Resolutions
mod Books
mod Takings
