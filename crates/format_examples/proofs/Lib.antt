mod Lists
mod Files
mod Stores
mod Regions
mod Logs
