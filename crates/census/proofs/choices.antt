-- Laws of the choices by number, for the functions of src/choices.rt.
pub mod RangeLaws
pub mod ListedLaws
