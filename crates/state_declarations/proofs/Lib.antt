-- `Parts`: what stands where in blocks, values and types. `Holds`: questions 12 to 14. `Meeting`: marking several keys. `Asking`: questions 11 to 16 of
-- the manifest.
pub mod Parts
pub mod Holds
pub mod Meeting
pub mod Asking
