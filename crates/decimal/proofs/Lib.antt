pub mod CountLaws
pub mod ReadLaws
pub mod SpellLaws
pub mod RoundTrip
