pub mod Words
pub mod Lines
pub mod Asked
pub mod Writing
pub mod RoundTrips
pub mod OneToOne
