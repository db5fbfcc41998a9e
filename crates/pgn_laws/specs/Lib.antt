pub mod TagSpelling
pub mod MovetextSpelling
pub mod RoundTrip
