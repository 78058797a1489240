mod Ends
mod Reaches
mod Spelled
