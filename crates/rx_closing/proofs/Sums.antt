-- So many rounds are enough: what calls may give in rounds through which none comes further, and their work.
pub mod Counts
pub mod Enough
pub mod LonePays
pub mod RoundLoads
pub mod NeverLong
pub mod Pays
pub mod WorkSmall
pub mod ClosesSpacious
pub mod Closes
pub mod ClosesAll
