mod Starting
mod Joining
mod Reading
