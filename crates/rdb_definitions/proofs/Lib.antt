mod FreeArea
mod Removal
mod KeyNames
mod SameKey
