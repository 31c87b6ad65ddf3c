pub mod Doors
pub mod Links
pub mod MemoryDoors
pub mod MemoryLinks
pub mod MemorySpawners
pub mod Spawners
