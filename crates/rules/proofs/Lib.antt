-- Laws of the rules that other crates cite (Ends, Meeting, Sound), and those that the code's proofs do.
pub mod Keys
pub mod Blanks
pub mod Search
pub mod Fill
pub mod Scans
pub mod Steps
pub mod Clash
pub mod Family
pub mod Ends
pub mod Rings
pub mod Meeting
pub mod Lowest
pub mod Tidy
pub mod Sound
