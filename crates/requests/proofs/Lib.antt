mod Requests
mod Steps
mod Parts
