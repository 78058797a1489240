mod Collecting
mod Reporting
mod SameCaps
mod Standing
mod Telling
mod Weighing
