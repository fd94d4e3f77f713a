mod Filling
mod Sections
mod Whole
