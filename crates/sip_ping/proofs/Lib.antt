mod Steps
mod Schedules
mod Reading
