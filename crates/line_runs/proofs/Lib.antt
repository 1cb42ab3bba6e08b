mod Backups
mod Earlier
mod Later
mod Opening
mod Prefix
