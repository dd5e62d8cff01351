pub mod PlainMachine
pub mod RoundTrip
