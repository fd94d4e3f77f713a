-- Laws of the definitions: `Bools` of tests of lists, `Firsts` of the first answer that says no, `Types` of types that are one,
-- `Neighbours` and `Words` of sorted paths and of their neighbours, `Bounded` of bounds, `Defined` of definitions, `Gathered` of marks and of
-- the paths put by them, `Asked` of the manifest's values behind positions, `Tabled` of its tables.
pub mod Bools
pub mod Firsts
pub mod Types
pub mod Neighbours
pub mod Words
pub mod Bounded
pub mod Defined
pub mod Gathered
pub mod Asked
pub mod Tabled
