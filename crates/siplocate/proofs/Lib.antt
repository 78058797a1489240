mod Commands
mod Counts
mod Onward
mod Parts
mod Replies
mod Runs
