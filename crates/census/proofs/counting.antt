-- Laws of the loop over the choices, for src/counting.rt.
pub mod TurnLaws
