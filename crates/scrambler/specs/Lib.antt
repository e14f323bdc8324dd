pub mod Scrambler
