pub mod SoundTest
