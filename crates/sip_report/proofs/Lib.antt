mod Floats
mod Shown
mod Verdicts
