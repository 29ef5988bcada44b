pub mod Numeral
