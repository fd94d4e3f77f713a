-- `Sets`: words for lists. `Declarations` .. `Portability`: questions 11 to 32, group by group. `Order`: all of them in document 01's order. `Answers`: what
-- a call answers, and what it leaves of the index. `Units`: the same of a call for units.
pub mod Sets
pub mod Declarations
pub mod References
pub mod Slots
pub mod Inputs
pub mod Portability
pub mod Order
pub mod Answers
pub mod Units
